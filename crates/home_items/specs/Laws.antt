-- What holds of starts, of parcels and of the shares of rows.
use Rattle.std.specs.Prelude.{◌≡◌, ◌⊎◌, ℕ, ◌+◌, ◌≤◌, ℤ, Bool, List, [], ◌∷◌, ◌++◌, length, take, Some}
use Rattle.exec_value.specs.declared.outcome.Completion.TheVariants.{NoMemory}
use Rattle.plan_rules.specs.declared.node.Node.{Node}
use Rattle.plan_shape.specs.declared.limits.TheConstants.{BULK_PARTS}
use Rattle.plan_kinds.specs.Runnable.{IsRunnable}
use Rattle.home_items.specs.declared.entry.Entry.{Entry}
use Rattle.home_items.specs.Contents.{Rest}
use Rattle.home_items.specs.Entries.{plan_node}
use Rattle.home_items.specs.HasKinds.{HasKinds}
use Rattle.home_items.specs.Shares.{first_index, share_of}
use Rattle.home_items.specs.Below.{AllowedWith, GoesBelow}
use Rattle.home_items.specs.Starts.{IsReceiver}
use Rattle.home_items.specs.Parcels.{Delivery, IsDelivery}
use Rattle.home_items.specs.Fits.{IsItemOf}

-- what a receiver node keeps of its child is want of memory, or allowed for the child that its
-- start names, with the start's arguments
abbrev pub CollectedIsAllowed : Type 0
CollectedIsAllowed =
    (e : Entry) (parcel : Delivery) (n : ℕ) → IsReceiver e → IsDelivery parcel →
    IsItemOf (Rest (e ∷ []) (Some parcel)) n → (child : ℕ) → e.child ≡ Some child →
    (parcel.completion ≡ NoMemory) ⊎ AllowedWith e parcel.saw child parcel.completion

-- in a plan whose kinds match, what goes on below a start with arguments of its kinds has such too
abbrev pub KindsGoDown : Type 0
KindsGoDown =
    (e p : Entry) (node : Node) → IsRunnable p.plan → HasKinds p.plan p.node p.args →
    plan_node p ≡ Some node → (seen : Bool) → GoesBelow seen e p → HasKinds e.plan e.node e.args

-- the shares follow each other, from the first element of the row to the last
pub record SharesMakeTheRow : Type 0 where
  pub begins : (whole : List ℤ) → first_index (length whole) 0 ≡ 0
  pub rises : (whole : List ℤ) (part : ℕ) →
      first_index (length whole) part ≤ first_index (length whole) (part + 1)
  pub joins : (whole : List ℤ) (part : ℕ) → take (first_index (length whole) (part + 1)) whole
      ≡ take (first_index (length whole) part) whole ++ share_of whole part
  pub ends : (whole : List ℤ) → first_index (length whole) BULK_PARTS ≡ length whole
