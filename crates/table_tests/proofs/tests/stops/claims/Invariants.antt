use Rattle.table_steps.specs.Views.{IsHandOf}
use Rattle.table_tests.proofs.tests.stops.claims.Given as goal

abbrev pub invariant-loop-block : goal.invariant-loop-block
invariant-loop-block l = IsHandOf l.table l.hand
