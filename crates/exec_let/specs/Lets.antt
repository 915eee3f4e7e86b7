-- How a let goes on when its child has completed, or a body ([exec.let]).
use Rattle.std.specs.Prelude.{◌≡◌, ◌≢◌, ◌⊎◌, ℕ, Bool, true, false, List, Some, None, Option}
use Rattle.exec_value.specs.declared.data.Datum.{Datum}
use Rattle.exec_value.specs.declared.outcome.Completion.TheVariants.{NoMemory}
use Rattle.exec_value.specs.Place.{AreInPlace}
use Rattle.exec_job.specs.Answer.{EndsInPlace}
use Rattle.exec_job.specs.Apply.{apply_of}
use Rattle.life_rules.specs.declared.event.Name.{Name}
use Rattle.life_rules.specs.declared.event.Resting.TheVariants.{Loop as InLoop}
use Rattle.life_rules.specs.Views.{beside}
use Rattle.plan_rules.specs.declared.node.Node.{Node}
use Rattle.plan_shape.specs.Blueprint.{Blueprint}
use Rattle.table_steps.specs.Readings.{IsBegunAs}
use Rattle.table_steps.specs.Views.{Board}
use Rattle.home_items.specs.declared.item.State.{State}
use Rattle.home_items.specs.declared.item.State.TheVariants.{Start as Begins}
use Rattle.home_items.specs.Entries.{asked_of}
use Rattle.home_items.specs.Parcels.{Delivery}
use Rattle.start_laws.specs.Lets.{channel_of, pick_of}
use Rattle.exec_recv.specs.declared.next.Next.{Next}
use Rattle.exec_recv.specs.Seats.{HandSeat}
use Rattle.exec_recv.specs.Sites.{node_at}
use Rattle.step_parts.specs.Completes.{Completes}
use Rattle.step_parts.specs.Heard.{Looked}
use Rattle.step_parts.specs.Leaves.{LeavesAt}
use Rattle.step_parts.specs.Starts.{Begins as BeginsWith, StartsAgain, StartsChild}
use Rattle.step_parts.specs.Stepping.{Stepping}
use Rattle.step_parts.specs.Takes.{TakesNew, TakesState}
use Rattle.exec_let.specs.declared.picking.Picked.{Picked}
use Rattle.exec_let.specs.declared.picking.Picked.TheVariants.{Answer, Body, Passes}
use Rattle.exec_let.specs.Kinds.{IsLet, is_small, let_child}
use Rattle.exec_let.specs.Opens.{Opens}
use Rattle.exec_let.specs.Picks.{picked_for}

module _ (board : Board Blueprint) (t : Stepping) (next : Next) where
  -- It looked, and read the word of the body that the pick names. Where that said that the body has
  -- begun, which doesn't come, it was left in the loop with this parcel of its child; else the body
  -- began with the data of the let's channel.
  pub record BeginsBody (node : Node) (parcel : Delivery) (body : ℕ) (old new : HandSeat) :
      Type 0 where
    pub saw : Bool
    pub heard : HandSeat
    pub looked : Looked board t.name saw old.me heard.me
    pub begun : Bool
    pub middle : HandSeat
    pub read : IsBegunAs board.frame (beside t.name body) begun heard.me middle.me
    pub later : begun ≡ true → LeavesAt board t (Some parcel) InLoop next middle new
    pub begins : (values : List Datum) → channel_of node parcel.completion ≡ Some values →
        begun ≡ false → BeginsWith board t body values (asked_of t.start) next middle new

  -- It looked, and completed as the body did, having seen what it read.
  pub record EndsAsBody (parcel : Delivery) (old new : HandSeat) : Type 0 where
    pub saw : Bool
    pub middle : HandSeat
    pub looked : Looked board t.name saw old.me middle.me
    pub completes : Completes board t parcel.completion saw next middle new

  -- There was no memory for what the pick answers to these data: not both stand in place, and no
  -- node of a small plan completes as the child did. It completed with want of memory.
  pub record Wants (node : Node) (parcel : Delivery) (old new : HandSeat) : Type 0 where
    pub values : List Datum
    pub on : channel_of node parcel.completion ≡ Some values
    pub large : AreInPlace values → EndsInPlace (apply_of (pick_of node) values) → ⊥
    pub more : is_small parcel.completion ≡ false
    pub completes : Completes board t NoMemory false next old new

  -- by what the pick answered to the data of the let's channel; what is on another passes
  abbrev pub GoesBy : Node → Delivery → Picked → HandSeat → HandSeat → Type 0
  GoesBy node parcel (Body body) old new = BeginsBody node parcel body old new
  GoesBy node parcel (Answer answer) old new = Completes board t answer parcel.saw next old new
  GoesBy node parcel Passes old new =
      Completes board t parcel.completion parcel.saw next old new

module _ (board : Board Blueprint) (t : Stepping) where
  abbrev pub GoesOn : Node → Delivery → Next → HandSeat → HandSeat → Type 0
  GoesOn node parcel next old new =
      GoesBy board t next node parcel (picked_for node (channel_of node parcel.completion)) old new
      ⊎ Wants board t next node parcel old new

  -- Of a let that has begun: where a body has completed it completes so; where the child has, it
  -- goes on by that; and else the child is started.
  pub record StepsBegun (node : Node) (next : Next) (old new : HandSeat) : Type 0 where
    pub below : Option Delivery
    pub over : Option Delivery
    pub middle : HandSeat
    pub opens : Opens board t node below over old middle
    pub body : (parcel : Delivery) → over ≡ Some parcel →
        EndsAsBody board t next parcel middle new
    pub child : (parcel : Delivery) → over ≡ None → below ≡ Some parcel →
        GoesOn node parcel next middle new
    pub again : over ≡ None → below ≡ None →
        StartsAgain board t (let_child node) next middle new

module _ (board : Board Blueprint) (x : Name) (next : Next) (old new : HandSeat) where
  -- First the let starts its child.
  pub record LetsFirst (node : Node) : Type 0 where
    pub taken : Stepping
    pub up : HandSeat
    pub takes : TakesNew board x taken old up
    pub starts : StartsChild board taken (let_child node) next up new

  -- Then it goes on by what has completed.
  pub record LetsOn (node : Node) : Type 0 where
    pub taken : Stepping
    pub state : State
    pub up : HandSeat
    pub takes : TakesState board x taken state old up
    pub begun : state ≢ Begins
    pub goes : StepsBegun board taken node next up new

  pub record StepsLet : Type 0 where
    pub node : Node
    pub node_is : node_at board x ≡ Some node
    pub is_let : IsLet node
    pub does : LetsFirst node ⊎ LetsOn node
