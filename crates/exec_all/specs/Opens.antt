-- What a `when_all` that has begun finds in the homes of its children.
use Rattle.std.specs.Prelude.{◌≡◌, ◌≢◌, ℕ, ◌<◌, Bool, true, false, List, [], length, slice_index, Option, Some, None, IfSome}
use Rattle.exec_value.specs.declared.outcome.Completion.TheVariants.{Stopped}
use Rattle.plan_rules.specs.declared.node.Node.TheVariants.{WhenAll}
use Rattle.plan_shape.specs.Blueprint.{Blueprint}
use Rattle.table_steps.specs.Views.{Board}
use Rattle.table_steps.specs.Seats.{Seated}
use Rattle.home_items.specs.declared.entry.Entry.{Entry}
use Rattle.home_items.specs.declared.item.Item.{Item}
use Rattle.home_items.specs.declared.item.State.{State}
use Rattle.home_items.specs.declared.item.State.TheVariants.{Start as Begins}
use Rattle.home_items.specs.Contents.{Done}
use Rattle.home_items.specs.Parcels.{Delivery, IsDelivery}
use Rattle.start_laws.specs.AllEnds.{FailedFirst}
use Rattle.start_laws.specs.Holding.{IsDoneBelow}
use Rattle.exec_recv.specs.Seats.{HandSeat}
use Rattle.exec_recv.specs.Sites.{node_at, MayStep}
use Rattle.step_parts.specs.Heard.{has_heard}
use Rattle.step_parts.specs.Several.{Empties}
use Rattle.step_parts.specs.Stepping.{Stepping}
use Rattle.step_parts.specs.Takes.{IsOpenWith, TakesState}
use Rattle.exec_all.specs.declared.joining.Joining.{Joining}
use Rattle.exec_all.specs.Joined.{IsJoined}

-- the parcel that lies in a home
abbrev pub parcel_of : Option Item → Delivery
parcel_of (Some (Done parcel)) = parcel
parcel_of inside = record { start = []; completion = Stopped; saw = false }

-- those in the homes of these children, by their places
abbrev pub ends_in : (ℕ → Option Item) → List ℕ → ℕ → Delivery
ends_in kid children i = parcel_of (kid (slice_index children i))

-- a parcel lies in each of the homes of the first so many
pub record HaveEnded (kid : ℕ → Option Item) (children : List ℕ) (n : ℕ) : Type 0 where
  pub lay : (i : ℕ) → i < n → kid (slice_index children i) ≡ Some (Done (ends_in kid children i))
  pub lawful : (i : ℕ) → i < n → IsDelivery (ends_in kid children i)

-- what these parcels come to is this, and each home of these children was full with one
abbrev pub AreTogether : (ℕ → Option Item) → List ℕ → Joining → Type 0
AreTogether kid children joining =
    HaveEnded kid children (length children)
    × IsJoined joining (ends_in kid children) (length children)

-- the home of one of the first so many is empty
abbrev pub OneIsEmpty : (ℕ → Option Item) → List ℕ → ℕ → Type 0
OneIsEmpty kid children n = (i : ℕ) × (i < n) × (kid (slice_index children i) ≡ None)

module _ (board : Board Blueprint) (t : Stepping) where
  -- The step took up a `when_all` with these children, which had begun.
  pub record MayOpen (children : List ℕ) (hand : HandSeat) : Type 0 where
    pub may : MayStep board t.name t.from
    pub state : State
    pub up : TakesState board t.name t state t.from hand
    pub begun : state ≢ Begins
    pub node_is : node_at board t.name ≡ Some (WhenAll children)

  -- the homes of these children were emptied. Where a parcel lay in each, this is what they come
  -- to; else one was empty
  pub record TakesAll (children : List ℕ) (all : Option Joining) (old new : HandSeat) :
      Type 0 where
    pub empties : Empties board t children old new
    pub found : IfSome all (λ joining. (inside : Item) (kid : ℕ → Option Item) →
        IsOpenWith board t inside kid old → AreTogether kid children joining)
    pub missing : all ≡ None → (inside : Item) (kid : ℕ → Option Item) →
        IsOpenWith board t inside kid old → OneIsEmpty kid children (length children)

  -- Each of the children of the node has completed, and this is what their parcels come to. Where a
  -- stop was requested of them, and the hand has heard of none above the node, one failed without
  -- having seen it.
  pub record HaveJoined (children : List ℕ) (joining : Joining) (m : Seated Item Entry) :
      Type 0 where
    pub ends : ℕ → Delivery
    pub joined : IsJoined joining ends (length children)
    pub told : Bool
    pub each : (i : ℕ) → i < length children →
        IsDoneBelow t.start (ends i) (slice_index children i) told
    pub failed : told ≡ true → has_heard board t.name m ≡ false →
        FailedFirst ends (length children)
