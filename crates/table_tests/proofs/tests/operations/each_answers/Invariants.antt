use Rattle.table_steps.specs.Views.{IsHandOf}
use Rattle.op_slot.specs.Tends.{IsCalm}
use Rattle.table_tests.proofs.tests.operations.each_answers.Given as goal

abbrev pub invariant-loop-number : goal.invariant-loop-number
invariant-loop-number l = record {
  table : IsHandOf l.table l.hand;
  calm : IsCalm l.hand.me;
}
