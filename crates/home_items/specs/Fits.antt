-- What the full home of a node keeps.
use Rattle.std.specs.Prelude.{◌≡◌, ◌≢◌, ◌⊎◌, ⊤, ℕ, ◌<◌, Bool, true, false, List, ◌∷◌, length, Some}
use Rattle.exec_value.specs.declared.outcome.Completion.TheVariants.{NoMemory}
use Rattle.plan_rules.specs.Allowed.{IsFailure}
use Rattle.plan_kinds.specs.Small.{IsSmall}
use Rattle.home_items.specs.declared.entry.Entry.{Entry}
use Rattle.home_items.specs.declared.item.Item.{Item}
use Rattle.home_items.specs.Contents.{Rest, Done}
use Rattle.home_items.specs.Entries.{plan_of, node_of, args_of, child_of, node_above, plan_node}
use Rattle.home_items.specs.HasKinds.{HasKinds}
use Rattle.home_items.specs.Below.{IsPlainChild}
use Rattle.home_items.specs.Starts.{NeedsNoRequest}
use Rattle.home_items.specs.Items.{start_in, completion_in, saw_in}

-- The arguments of a start of the receiver node are of the kinds of the child that it names.
abbrev pub FitsChild : List Entry → Type 0
FitsChild start =
    (child : ℕ) → child_of start ≡ Some child → HasKinds (plan_of start) child (args_of start)

-- The parcel is that of a child that runs with its parent's arguments, so of no body and no part.
abbrev pub IsChildOf : List Entry → List Entry → Type 0
IsChildOf (e ∷ p ∷ above) start = (start ≡ p ∷ above) × IsPlainChild (plan_node p) e p
IsChildOf parcel start = ⊥

-- what a rest keeps is a parcel of the node's child
abbrev pub KeepsChild : Item → Type 0
KeepsChild (Rest start (Some parcel)) = IsChildOf parcel.start start
KeepsChild item = ⊤

-- The item is of this node. In a small plan no completion in it is want of memory.
pub record IsItemOf (item : Item) (n : ℕ) : Type 0 where
  pub node : node_of (start_in item) ≡ n
  pub kinds : FitsChild (start_in item)
  pub keeps : KeepsChild item
  pub small : IsSmall (plan_of (start_in item)) → completion_in item ≢ Some NoMemory

-- The item is of a child of this node, which failed: it ended by an error or by stopped.
abbrev pub HasFailed : Item → Type 0
HasFailed (Done parcel) = IsFailure parcel.completion
HasFailed item = ⊥

pub record FailedBelow (item : Item) (n : ℕ) : Type 0 where
  pub above : node_above (start_in item) ≡ Some n
  pub failed : HasFailed item

-- Nothing of the item rests on a request: its start doesn't, and the parcel in it saw none.
pub record SawNoRequest (item : Item) : Type 0 where
  pub start : NeedsNoRequest (start_in item)
  pub saw : saw_in item ≡ false

-- The home of this node may keep the item, where a stop was requested above it or wasn't. Asked
-- with the parent's number it says that the item failed.
abbrev pub FitsHome : Item → ℕ → Bool → Type 0
FitsHome item node requested =
    (IsItemOf item node ⊎ FailedBelow item node) × (requested ≡ false → SawNoRequest item)

-- The item keeps its child's parcel, which isn't want of memory.
abbrev pub KeepsParcel : Item → Type 0
KeepsParcel (Rest start (Some parcel)) = parcel.completion ≢ NoMemory
KeepsParcel item = ⊥

-- The node goes on later: the item is neither a start nor a completion.
abbrev pub IsRest : Item → Type 0
IsRest (Rest start kept) = ⊤
IsRest item = ⊥

-- The node may rest with the item. The receiver node of a small plan does only with its child's
-- parcel. So a node whose home shows a start has just begun.
pub record MayRest (item : Item) (node : ℕ) : Type 0 where
  pub rest : IsRest item
  pub kept : IsSmall (plan_of (start_in item)) → node ≡ length (plan_of (start_in item)).nodes →
      KeepsParcel item

-- what fits where nothing was requested fits where something was
pub fits-widens : (item : Item) (node : ℕ) → FitsHome item node false → FitsHome item node true
fits-widens item node fits = (fits.0, λ e. cc)

-- an item that failed, and saw no request, failed without one
pub fits-blames : (item : Item) (node parent : ℕ) → node < parent → FitsHome item node false
    → FitsHome item parent true → FitsHome item parent false
fits-blames item node parent below fits failed = (failed.0, fits.1)
