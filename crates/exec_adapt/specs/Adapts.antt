-- What the step of a factory and that of an adaptor do ([exec.factories], [exec.adapt]).
use Rattle.std.specs.Prelude.{◌≡◌, ◌≢◌, ◌⊎◌, ◌||◌, ℕ, Bool, true, false, Option, Some, None}
use Rattle.exec_value.specs.declared.outcome.Completion.{Completion}
use Rattle.exec_value.specs.declared.outcome.Completion.TheVariants.{Value, Error, NoMemory}
use Rattle.life_rules.specs.declared.event.Name.{Name}
use Rattle.plan_kinds.specs.Small.{own_name}
use Rattle.plan_rules.specs.declared.node.Node.{Node}
use Rattle.plan_rules.specs.declared.node.Node.TheVariants.{Input, JustError, ReadEnv}
use Rattle.plan_rules.specs.declared.node.Query.{Query}
use Rattle.plan_rules.specs.declared.node.Query.TheVariants.{Stop, Record}
use Rattle.plan_shape.specs.Blueprint.{Blueprint}
use Rattle.table_steps.specs.Views.{Board}
use Rattle.home_items.specs.declared.item.State.{State}
use Rattle.home_items.specs.declared.item.State.TheVariants.{Start as Begins}
use Rattle.home_items.specs.Entries.{args_of, asked_of, record_number}
use Rattle.home_items.specs.Parcels.{Delivery}
use Rattle.node_images.specs.Makes.{CompletesInPlace}
use Rattle.exec_recv.specs.declared.next.Next.{Next}
use Rattle.exec_recv.specs.Seats.{HandSeat}
use Rattle.exec_recv.specs.Sites.{node_at}
use Rattle.step_parts.specs.Completes.{Completes}
use Rattle.step_parts.specs.Heard.{Looked}
use Rattle.step_parts.specs.Starts.{StartsAgain, StartsChild}
use Rattle.step_parts.specs.Stepping.{Stepping}
use Rattle.step_parts.specs.Takes.{TakesBack, TakesKept, TakesNew, TakesState}
use Rattle.exec_adapt.specs.Images.{adapted_to, names_error, made_of}
use Rattle.exec_adapt.specs.Kinds.{adapted}

module _ (board : Board Blueprint) (t : Stepping) where
  -- The node completed with this; or there was no memory for it, which doesn't stand in place, and
  -- it completed with that.
  pub record Wants (done : Completion) (next : Next) (old new : HandSeat) : Type 0 where
    pub large : CompletesInPlace done → ⊥
    pub completes : Completes board t NoMemory false next old new

  abbrev pub EndsWith : Completion → Bool → Next → HandSeat → HandSeat → Type 0
  EndsWith done saw next old new =
      Completes board t done saw next old new ⊎ Wants done next old new

  -- An adaptor whose child completed so completed with what it makes of that. There is always
  -- memory for an error's name.
  pub record Ends (node : Node) (parcel : Delivery) (next : Next) (old new : HandSeat) :
      Type 0 where
    pub named : names_error node parcel.completion ≡ true →
        Completes board t (Error (own_name node)) parcel.saw next old new
    pub made : names_error node parcel.completion ≡ false →
        EndsWith (adapted_to node parcel.completion) parcel.saw next old new

  -- The child hadn't completed since the adaptor rested: it completed by what it kept of the child,
  -- or started it.
  pub record GoesOnAgain (node : Node) (child : ℕ) (next : Next) (old new : HandSeat) :
      Type 0 where
    pub kept : Option Delivery
    pub middle : HandSeat
    pub takes : TakesKept board t kept old middle
    pub ends : (parcel : Delivery) → kept ≡ Some parcel → Ends node parcel next middle new
    pub starts : kept ≡ None → StartsAgain board t child next middle new

  -- It had begun: what lay in the child's home was taken.
  pub record GoesOn (node : Node) (child : ℕ) (next : Next) (old new : HandSeat) : Type 0 where
    pub answer : Option Delivery
    pub middle : HandSeat
    pub takes : TakesBack board t child answer old middle
    pub ends : (parcel : Delivery) → answer ≡ Some parcel → Ends node parcel next middle new
    pub again : answer ≡ None → GoesOnAgain node child next middle new

  -- A factory completed with what the plan says, or its environment, where this was found of a
  -- stop.
  abbrev pub Makes : Node → Bool → Bool → Next → HandSeat → HandSeat → Type 0
  Makes node stop saw next old new =
      EndsWith (made_of node (record_number t.start) stop) saw next old new

  -- It looked first, where it is a query of stop, and answers what it found: a request that was
  -- made before the operation was started, or one that it read.
  pub record LooksAndMakes (next : Next) (old new : HandSeat) : Type 0 where
    pub saw : Bool
    pub middle : HandSeat
    pub looked : Looked board t.name saw old.me middle.me
    pub makes : Makes (ReadEnv Stop) (asked_of t.start || saw) saw next middle new

  -- by the query
  abbrev pub Answers : Query → Next → HandSeat → HandSeat → Type 0
  Answers Stop next old new = LooksAndMakes next old new
  Answers Record next old new = Makes (ReadEnv Record) false false next old new

  -- by the node
  abbrev pub MakesAs : Node → Next → HandSeat → HandSeat → Type 0
  MakesAs Input next old new =
      Completes board t (Value (args_of t.start)) false next old new
  MakesAs (JustError name) next old new = Completes board t (Error name) false next old new
  MakesAs (ReadEnv query) next old new = Answers query next old new
  MakesAs node next old new = Makes node false false next old new

module _ (board : Board Blueprint) (x : Name) (next : Next) (old new : HandSeat) where
  -- A factory completes at once.
  pub record MakesOwn : Type 0 where
    pub node : Node
    pub node_is : node_at board x ≡ Some node
    pub taken : Stepping
    pub state : State
    pub up : HandSeat
    pub takes : TakesState board x taken state old up
    pub makes : MakesAs board taken node next up new

  -- An adaptor starts its child.
  pub record AdaptsFirst (child : ℕ) : Type 0 where
    pub taken : Stepping
    pub up : HandSeat
    pub takes : TakesNew board x taken old up
    pub starts : StartsChild board taken child next up new

  -- It completes with what it makes of the child's completion.
  pub record AdaptsBack (node : Node) (child : ℕ) : Type 0 where
    pub taken : Stepping
    pub state : State
    pub up : HandSeat
    pub takes : TakesState board x taken state old up
    pub begun : state ≢ Begins
    pub goes_on : GoesOn board taken node child next up new

  pub record Adapts : Type 0 where
    pub node : Node
    pub node_is : node_at board x ≡ Some node
    pub child : ℕ
    pub child_is : adapted node ≡ Some child
    pub does : AdaptsFirst child ⊎ AdaptsBack node child
