-- What the step of a part does ([exec.bulk]).
use Rattle.std.specs.Prelude.{◌≡◌, ◌≢◌, ◌⊎◌, ℕ, false, Some, None, Result, IfOk, IsOk}
use Rattle.std.specs.declared.alloc.AllocError.{AllocError}
use Rattle.exec_value.specs.declared.outcome.Completion.{Completion}
use Rattle.exec_value.specs.declared.outcome.Completion.TheVariants.{NoMemory}
use Rattle.life_rules.specs.declared.event.Name.{Name}
use Rattle.life_rules.specs.declared.event.Resting.TheVariants.{Pool as InPool}
use Rattle.node_images.specs.Makes.{CompletesInPlace}
use Rattle.plan_rules.specs.Bulks.{job_of_bulk, part_ending}
use Rattle.plan_rules.specs.declared.node.Node.TheVariants.{Part}
use Rattle.plan_shape.specs.Blueprint.{Blueprint}
use Rattle.table_steps.specs.Views.{Board}
use Rattle.home_items.specs.declared.item.State.{State}
use Rattle.home_items.specs.declared.item.State.TheVariants.{Start as Begins}
use Rattle.home_items.specs.Entries.{args_of}
use Rattle.exec_recv.specs.declared.next.Next.{Next}
use Rattle.exec_recv.specs.Seats.{HandSeat}
use Rattle.exec_recv.specs.Sites.{node_at, plan_at}
use Rattle.step_parts.specs.Completes.{Completes}
use Rattle.step_parts.specs.Leaves.{LeavesAt}
use Rattle.step_parts.specs.Stepping.{Stepping}
use Rattle.step_parts.specs.Takes.{IsTaken, Keeps, TakesState}

module _ (board : Board Blueprint) (t : Stepping) (bulk part : ℕ) where
  -- what the bulk's job makes of the part's share
  abbrev pub share_done : Completion
  share_done = part_ending (job_of_bulk (plan_at board).nodes bulk) (args_of t.start)

  -- The step of a part that was taken in the pool goes on.
  pub record MayRunPart (hand : HandSeat) : Type 0 where
    pub taken : IsTaken board t hand
    pub node_is : node_at board t.name ≡ Some (Part bulk part)

  -- the job was applied; an error is answered where there is no memory for what it makes
  pub record MakesShare (answer : Result Completion AllocError) (old new : HandSeat) :
      Type 0 where
    pub keeps : Keeps board t old new
    pub exact : IfOk answer (λ done. done ≡ share_done)
    pub in_place : CompletesInPlace share_done → IsOk answer

  -- There was no memory for it, and it doesn't stand in place.
  pub record WantsShare (next : Next) (old new : HandSeat) : Type 0 where
    pub large : CompletesInPlace share_done → ⊥
    pub completes : Completes board t NoMemory false next old new

  abbrev pub RunsPart : Next → HandSeat → HandSeat → Type 0
  RunsPart next old new =
      Completes board t share_done false next old new ⊎ WantsShare next old new

-- A part is left ready in the pool first. When it is taken there it completes with what its bulk's
-- job makes of its share.
pub record StepsPart (board : Board Blueprint) (x : Name) (next : Next) (old new : HandSeat) :
    Type 0 where
  pub bulk : ℕ
  pub part : ℕ
  pub node_is : node_at board x ≡ Some (Part bulk part)
  pub taken : Stepping
  pub state : State
  pub up : HandSeat
  pub takes : TakesState board x taken state old up
  pub hops : state ≡ Begins → LeavesAt board taken None InPool next up new
  pub runs : state ≢ Begins → RunsPart board taken bulk part next up new
