-- How a bulk begins its parts ([exec.bulk]).
use Rattle.std.specs.Prelude.{◌≡◌, ℕ, ◌≤◌, Bool, true, false, List, [], ◌∷◌, length, Some}
use Rattle.std.specs.List.{range_with_len}
use Rattle.exec_job.specs.declared.job.Job.{Job}
use Rattle.exec_value.specs.declared.data.Datum.{Datum}
use Rattle.exec_value.specs.declared.data.Datum.TheVariants.{Row}
use Rattle.exec_value.specs.declared.outcome.Completion.TheVariants.{NoMemory}
use Rattle.plan_rules.specs.declared.node.Node.TheVariants.{Bulk}
use Rattle.plan_shape.specs.Blueprint.{Blueprint}
use Rattle.table_steps.specs.Slots.{has_seen}
use Rattle.table_steps.specs.Views.{Board, knows}
use Rattle.home_items.specs.Parcels.{Delivery}
use Rattle.exec_recv.specs.declared.next.Next.{Next}
use Rattle.exec_recv.specs.declared.next.Next.TheVariants.{Rest as IsAtRest}
use Rattle.exec_recv.specs.Seats.{HandSeat}
use Rattle.exec_recv.specs.Sites.{node_at, Steps}
use Rattle.step_parts.specs.Awaits.{AwaitsMany}
use Rattle.step_parts.specs.Completes.{Completes}
use Rattle.step_parts.specs.Heard.{Looked}
use Rattle.step_parts.specs.Stepping.{Stepping}
use Rattle.step_parts.specs.Takes.{HasParcel, IsTaken, Keeps}
use Rattle.exec_bulk.specs.Rows.{first_part, numbers_in, parts_for}

module _ (board : Board Blueprint) (t : Stepping) where
  -- The step of a bulk goes on, whose child has completed with this parcel.
  pub record MayGoOn (parcel : Delivery) (hand : HandSeat) : Type 0 where
    pub taken : IsTaken board t hand
    pub child : ℕ
    pub job : Job
    pub node_is : node_at board t.name ≡ Some (Bulk child job)
    pub has : HasParcel board t hand.me parcel

  -- It is a row with numbers.
  pub record MayBegin (parcel : Delivery) (hand : HandSeat) : Type 0 where
    pub goes_on : MayGoOn parcel hand
    pub some : 1 ≤ length (numbers_in parcel.completion)

  -- Where the child saw a request, the hand has seen one.
  pub record MayStart (parcel : Delivery) (row : List Datum) (hand : HandSeat) : Type 0 where
    pub may : MayBegin parcel hand
    pub row_is : row ≡ Row (numbers_in parcel.completion) ∷ []
    pub seen : parcel.saw ≡ true → has_seen board.frame.tree (knows hand) t.name ≡ true

  -- where the child saw a request, the node looked, and the answer is what it read
  pub record Looks (saw answer : Bool) (old new : HandSeat) : Type 0 where
    pub keeps : Keeps board t old new
    pub looked : saw ≡ true → Looked board t.name answer old.me new.me
    pub none : saw ≡ false → answer ≡ true

  -- It keeps the parcel of its child, and awaits as many of its parts as the row has, none of which
  -- had begun; each start was put into the part's home.
  pub record StartsParts (parcel : Delivery) (next : Next) (old new : HandSeat) : Type 0 where
    pub steps : Steps board t.name next t.from new
    pub next_is : next ≡ IsAtRest
    pub read : HandSeat
    pub reads : Keeps board t old read
    pub waiting : HandSeat
    pub awaits : AwaitsMany board t (Some parcel)
        (range_with_len (first_part t.name.node) (parts_for (numbers_in parcel.completion)))
        read waiting
    pub owed : (knows new).owed ≡ (knows waiting).owed

  -- It began the parts. Where the child saw a request of which the node's own look reads nothing,
  -- which doesn't come, it completed with want of memory.
  pub record BeginsParts (parcel : Delivery) (next : Next) (old new : HandSeat) : Type 0 where
    pub answer : Bool
    pub middle : HandSeat
    pub looks : Looks parcel.saw answer old middle
    pub starts : answer ≡ true → StartsParts parcel next middle new
    pub wants : answer ≡ false → Completes board t NoMemory false next middle new
