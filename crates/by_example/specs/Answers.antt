-- What an operation on one number may complete with, and what is answered.
use Rattle.std.specs.Prelude.{⊤, ℤ, ◌-◌, [], ◌∷◌, length, Result, Ok, Err}
use Rattle.exec_value.specs.declared.data.Datum.TheVariants.{Int}
use Rattle.exec_value.specs.declared.outcome.Completion.{Completion}
use Rattle.plan_kinds.specs.Runnable.{IsRunnable}
use Rattle.plan_kinds.specs.Small.{IsSmall}
use Rattle.plan_rules.specs.Allowed.{Allowed}
use Rattle.plan_rules.specs.declared.stop.StopState.TheVariants.{Never}
use Rattle.plan_shape.specs.Blueprint.{Blueprint}
use Rattle.node_walks.specs.Starts.{MissesEach}
use Rattle.run_loop.specs.declared.waiting.Waited.{Waited}
use Rattle.run_loop.specs.declared.waiting.Waited.TheVariants.{Completed, NoBlock}
use Rattle.table_steps.specs.Views.{Board}
use Rattle.by_example.specs.declared.fault.AddFault.{AddFault}
use Rattle.by_example.specs.declared.fault.AddFault.TheVariants.{NoMemory, NoBlock as NoneFree}
use Rattle.by_example.specs.OneHand.{TheHand}

-- The kinds of the plan match, and it is small: of int records, and its completions want no memory.
pub record IsOfInts (plan : Blueprint) : Type 0 where
  pub runs : IsRunnable plan
  pub small : IsSmall plan

-- The plan's root may complete so for this number, as record 1, where no stop is requested.
abbrev pub MayComplete : Blueprint → ℤ → Completion → Type 0
MayComplete plan number c =
    Allowed plan.nodes (length plan.nodes - 1) (Int number ∷ []) 1 Never c

-- The completion of the operation, where a block was free for it.
abbrev pub answer_of : Waited → Result Completion AddFault
answer_of (Completed found) = Ok found.completion
answer_of (NoBlock back) = Err NoneFree

-- Want of memory has no cause. No block was free only where the hand missed each block at a step of
-- its own: it wasn't free, or another hand moved it.
abbrev pub IsAddCause : Board Blueprint → TheHand → TheHand → AddFault → Type 0
IsAddCause board old new NoMemory = ⊤
IsAddCause board old new NoneFree = MissesEach board 0 old new
