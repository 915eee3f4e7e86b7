use Rattle.table_steps.specs.Views.{Stays}
use Rattle.op_slot.specs.Searches.{IsMissedFrom}
use Rattle.op_slot.proofs.blocks.claim_from.Given as goal

abbrev pub invariant-loop-step : goal.invariant-loop-step
invariant-loop-step g l = record {
  stays : Stays l.table l.fn.hand l.hand;
  missed : IsMissedFrom l.table l.fn.from l.step l.fn.hand l.hand;
}
