-- What a bulk that has begun finds in the homes of its child and of its parts.
use Rattle.std.specs.Prelude.{◌≡◌, ◌≢◌, ℕ, ◌+◌, ◌<◌, List, [], length, ℤ, Option, Some, None, IfSome}
use Rattle.std.specs.List.{range_with_len}
use Rattle.exec_job.specs.declared.job.Job.{Job}
use Rattle.exec_value.specs.declared.outcome.Completion.TheVariants.{NoMemory}
use Rattle.plan_rules.specs.declared.node.Node.TheVariants.{Bulk}
use Rattle.plan_shape.specs.Blueprint.{Blueprint}
use Rattle.plan_shape.specs.declared.limits.TheConstants.{BULK_PARTS}
use Rattle.table_steps.specs.Views.{Board}
use Rattle.home_items.specs.declared.item.Item.{Item}
use Rattle.home_items.specs.declared.item.State.{State}
use Rattle.home_items.specs.Contents.{Done}
use Rattle.home_items.specs.Items.{parcel_in}
use Rattle.home_items.specs.Parcels.{Delivery, IsDelivery}
use Rattle.exec_recv.specs.Seats.{HandSeat}
use Rattle.exec_recv.specs.Sites.{node_at}
use Rattle.exec_recv.specs.Steppable.{CanStep}
use Rattle.step_parts.specs.Several.{Empties}
use Rattle.step_parts.specs.Stepping.{Stepping}
use Rattle.step_parts.specs.Takes.{IsOpenWith, TakesChild, TakesState}
use Rattle.exec_bulk.specs.declared.joining.Made.{Made}
use Rattle.exec_bulk.specs.declared.joining.Made.TheVariants.{Want}
use Rattle.exec_bulk.specs.declared.opening.KeptRow.{KeptRow}
use Rattle.exec_bulk.specs.Made.{AddsParcel, IsFrontMade, IsOfShare, one_missing}
use Rattle.exec_bulk.specs.Rows.{first_part, numbers_in}

-- a parcel lies in this home, and isn't want of memory
pub record HasDelivered (inside : Option Item) : Type 0 where
  pub parcel : Delivery
  pub full : inside ≡ Some (Done parcel)
  pub able : parcel.completion ≢ NoMemory

-- so it is of the homes of the first so many nodes from this one on
abbrev pub HaveDelivered : ℕ → ℕ → (ℕ → Option Item) → Type 0
HaveDelivered first n kid = (i : ℕ) → i < n → HasDelivered (kid (first + i))

-- what was looked at is the row of this delivery
pub record ShowsRow (row : KeptRow) (kept : Delivery) : Type 0 where
  pub room_is : row.room ≡ length (numbers_in kept.completion)
  pub saw_is : row.saw ≡ kept.saw
  pub lawful : IsDelivery kept

module _ (board : Board Blueprint) (t : Stepping) where
  -- The step of a bulk of this child has taken it up in this state.
  pub record HasTakenUp (child : ℕ) (state : State) (hand : HandSeat) : Type 0 where
    pub before : HandSeat
    pub can : CanStep board t.name before.me
    pub takes : TakesState board t.name t state before hand
    pub job : Job
    pub node_is : node_at board t.name ≡ Some (Bulk child job)

  -- It keeps a parcel of its child.
  pub record MayLook (hand : HandSeat) : Type 0 where
    pub inside : Item
    pub kid : ℕ → Option Item
    pub opened : IsOpenWith board t inside kid hand
    pub keeps : parcel_in inside ≢ None

  -- Of a bulk that has begun, and keeps no numbers, nothing lies in the homes of its parts.
  pub record MayTakeBack (child : ℕ) (hand : HandSeat) : Type 0 where
    pub inside : Item
    pub kid : ℕ → Option Item
    pub opened : IsOpenWith board t inside kid hand
    pub job : Job
    pub node_is : node_at board t.name ≡ Some (Bulk child job)
    pub none : (part : ℕ) → part < BULK_PARTS → kid (first_part t.name.node + part) ≡ None

  -- What the parts completed with is what the job makes of their shares of this row.
  pub record HasDrawn (job : Job) (whole : List ℤ) (hand : HandSeat) : Type 0 where
    pub inside : Item
    pub kid : ℕ → Option Item
    pub opened : IsOpenWith board t inside kid hand
    pub makes : (part : ℕ) (parcel : Delivery) → part < BULK_PARTS →
        kid (first_part t.name.node + part) ≡ Some (Done parcel) → IsDelivery parcel →
        IsOfShare job whole part parcel.completion

  -- It looked at what it keeps of its child, a delivery, which lies there still.
  pub record LooksAtRow (row : KeptRow) (old new : HandSeat) : Type 0 where
    pub still : Empties board t [] old new
    pub shows : (inside : Item) (kid : ℕ → Option Item) → IsOpenWith board t inside kid old →
        (kept : Delivery) → parcel_in inside ≡ Some kept →
        ShowsRow row kept

  -- The home of the part of this number was emptied, and what lay there was added to these.
  pub record GathersPart (part : ℕ) (before after : Made) (old new : HandSeat) : Type 0 where
    pub answer : Option Delivery
    pub takes : TakesChild board t (first_part t.name.node + part) answer old new
    pub adds : IfSome answer (AddsParcel before after)
    pub misses : answer ≡ None → after ≡ one_missing before

  -- The homes of the first n parts were emptied, and what lay there was added up to this. Where
  -- that wants memory, one of them does, or isn't done.
  pub record GathersParts (n : ℕ) (made : Made) (old new : HandSeat) : Type 0 where
    pub empties : Empties board t (range_with_len (first_part t.name.node) n) old new
    pub made_is : (job : Job) (whole : List ℤ) → HasDrawn job whole old →
        IsFrontMade made job whole n
    pub wants : (inside : Item) (kid : ℕ → Option Item) → IsOpenWith board t inside kid old →
        made ≡ Want → HaveDelivered (first_part t.name.node) n kid → ⊥
