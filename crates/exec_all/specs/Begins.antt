-- How a `when_all` begins ([exec.when.all]).
use Rattle.std.specs.Prelude.{◌≡◌, ◌⊎◌, ℕ, Bool, true, false, List, length, Some, None}
use Rattle.exec_value.specs.declared.outcome.Completion.TheVariants.{Stopped, NoMemory}
use Rattle.plan_rules.specs.declared.node.Node.TheVariants.{WhenAll}
use Rattle.plan_shape.specs.Blueprint.{Blueprint}
use Rattle.table_steps.specs.Views.{Board, knows}
use Rattle.home_items.specs.Entries.{asked_of, carried_of}
use Rattle.exec_recv.specs.declared.next.Next.{Next}
use Rattle.exec_recv.specs.declared.next.Next.TheVariants.{Rest as IsAtRest}
use Rattle.exec_recv.specs.Seats.{HandSeat}
use Rattle.exec_recv.specs.Sites.{node_at, Steps}
use Rattle.step_parts.specs.Awaits.{AwaitsMany}
use Rattle.step_parts.specs.Completes.{Completes}
use Rattle.step_parts.specs.Kids.{KnowsAllIdle}
use Rattle.step_parts.specs.Listens.{Listens}
use Rattle.step_parts.specs.Stepping.{Stepping}
use Rattle.step_parts.specs.Takes.{HasJustBegun, IsTaken, Keeps}
use Rattle.exec_all.specs.declared.starts.Copies.{Copies}
use Rattle.exec_all.specs.Starts.{HasLast, is_light}

module _ (board : Board Blueprint) (t : Stepping) (children : List ℕ) where
  -- The step has come so far that a `when_all` with these children can begin, and has just begun.
  pub record MayBegin (hand : HandSeat) : Type 0 where
    pub taken : IsTaken board t hand
    pub node_is : node_at board t.name ≡ Some (WhenAll children)
    pub begun : HasJustBegun board t.name hand.me

  -- As many copies of its arguments are at hand as it has children, none of which has begun.
  pub record MayStartAll (copies : Copies) (hand : HandSeat) : Type 0 where
    pub taken : IsTaken board t hand
    pub node_is : node_at board t.name ≡ Some (WhenAll children)
    pub unasked : asked_of t.start ≡ false
    pub idle : KnowsAllIdle t.name children (length children) hand.me
    pub copies_are : HasLast (carried_of t.start) (length children) copies

  -- It was left awaiting all its children, and each start was put into the child's home.
  pub record StartsAll (next : Next) (old new : HandSeat) : Type 0 where
    pub steps : Steps board t.name next t.from new
    pub next_is : next ≡ IsAtRest
    pub waiting : HandSeat
    pub awaits : AwaitsMany board t None children old waiting
    pub owed : (knows new).owed ≡ (knows waiting).owed

  -- It listened to the source above it, and then looked: where a stop was requested there it
  -- completed stopped, and began no child; else it began all.
  pub record LooksFirst (next : Next) (old new : HandSeat) : Type 0 where
    pub answer : Bool
    pub middle : HandSeat
    pub listens : Listens board t.name answer old middle
    pub stops : answer ≡ true → Completes board t Stopped true next middle new
    pub starts : answer ≡ false → StartsAll next middle new

  -- there was no memory for copies of its arguments, which want some
  pub record HasWanted (next : Next) (old new : HandSeat) : Type 0 where
    pub large : is_light (carried_of t.start) ≡ false
    pub completes : Completes board t NoMemory false next old new

  -- First it copied its arguments, where they lie.
  pub record CopiesFirst (next : Next) (old new : HandSeat) : Type 0 where
    pub middle : HandSeat
    pub keeps : Keeps board t old middle
    pub goes_on : LooksFirst next middle new ⊎ HasWanted next middle new

  -- Where a request was made before the operation was started, it completed stopped.
  pub record BeginsAll (next : Next) (old new : HandSeat) : Type 0 where
    pub stops : asked_of t.start ≡ true → Completes board t Stopped false next old new
    pub begins : asked_of t.start ≡ false → CopiesFirst next old new
