use Rattle.table_use.specs.Members.{MayAssociate}
use Rattle.table_tests.proofs.tests.crowd.turns.Given as goal

abbrev pub invariant-loop-turn : goal.invariant-loop-turn
invariant-loop-turn l = MayAssociate l.table l.hand
