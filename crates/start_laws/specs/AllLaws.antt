-- What the children of a `when_all` complete with together ([exec.when.all]), and the two of an
-- `ahead` (P3149, `spawn_future`).
use Rattle.std.specs.Prelude.{◌≡◌, ◌≢◌, ℕ, ◌<◌, Bool, false, List, length, slice_index}
use Rattle.exec_value.specs.declared.data.Datum.{Datum}
use Rattle.exec_value.specs.declared.outcome.Completion.{Completion}
use Rattle.exec_value.specs.declared.outcome.Completion.TheVariants.{Value, NoMemory}
use Rattle.plan_rules.specs.declared.node.Node.TheVariants.{WhenAll, Ahead}
use Rattle.plan_rules.specs.Allowed.{IsFailure, joined, FailsWith}
use Rattle.plan_rules.specs.Settle.{ahead_of}
use Rattle.home_items.specs.declared.entry.Entry.{Entry}
use Rattle.home_items.specs.Entries.{plan_of, node_of, args_of, record_number, asked_of}
use Rattle.home_items.specs.Below.{AllowedWith}
use Rattle.home_items.specs.Parcels.{Delivery, MayDeliver, IsDelivery}
use Rattle.home_items.specs.Fits.{IsChildOf}
use Rattle.start_laws.specs.Nodes.{IsStartOf}

-- each child of the `when_all` has delivered: the parcels of its children, by their places
pub record AllDelivered (start : List Entry) (children : List ℕ) (ends : ℕ → Delivery) :
    Type 0 where
  pub node : IsStartOf start (WhenAll children)
  pub unasked : asked_of start ≡ false
  pub delivers : (i : ℕ) → i < length children → IsDelivery (ends i)
  pub child : (i : ℕ) → i < length children → IsChildOf (ends i).start start
  pub place : (i : ℕ) → i < length children → node_of (ends i).start ≡ slice_index children i

-- Where each has a value, the values joined may be delivered, as seen where a child saw a request.
-- Where child j failed and none wants memory, its error may be; or, where it stopped, any error of
-- the others, and stopped where there is none: as seen where child j saw a request.
pub record AllsAreAllowed : Type 0 where
  pub values : (start : List Entry) (children : List ℕ) (ends : ℕ → Delivery) →
      AllDelivered start children ends → (values : ℕ → List Datum) →
      ((i : ℕ) → i < length children → (ends i).completion ≡ Value (values i)) →
      (saw : Bool) → ((i : ℕ) → i < length children → saw ≡ false → (ends i).saw ≡ false) →
      MayDeliver start saw (Value (joined values (length children)))
  pub failure : (start : List Entry) (children : List ℕ) (ends : ℕ → Delivery) →
      AllDelivered start children ends →
      ((i : ℕ) → i < length children → (ends i).completion ≢ NoMemory) →
      (j : ℕ) → j < length children → IsFailure (ends j).completion →
      (saw : Bool) → (saw ≡ false → (ends j).saw ≡ false) → (done : Completion) →
      FailsWith (ends j).completion (λ i. (ends i).completion) (length children) done →
      MayDeliver start saw done

-- the entry has the plan, the arguments, the record number and `asked` of this start
pub record RunsAlike (e : Entry) (start : List Entry) : Type 0 where
  pub plan : e.plan ≡ plan_of start
  pub args : e.args ≡ args_of start
  pub number : e.number ≡ record_number start
  pub asked : e.asked ≡ asked_of start

-- Where the second child of an `ahead` has a value, and the first, which was spawned for the same
-- record, has completed, the failure of the first may be delivered, or both values.
abbrev pub AheadsAreAllowed : Type 0
AheadsAreAllowed =
    (start : List Entry) (first second : ℕ) → IsStartOf start (Ahead first second) →
    (parcel : Delivery) → IsDelivery parcel → IsChildOf parcel.start start →
    (values : List Datum) → parcel.completion ≡ Value values →
    (spawned : Entry) → RunsAlike spawned start → (seen : Bool) (done : Completion) →
    AllowedWith spawned seen first done → (saw : Bool) →
    (saw ≡ false → parcel.saw ≡ false) → (saw ≡ false → seen ≡ false) →
    MayDeliver start saw (ahead_of done (Value values))
