use Rattle.spawn_future.specs.Keeping.{IsKeeping}
use Rattle.hand_tests.proofs.tests.acts.all_told.Given as goal

abbrev pub invariant-loop-act : goal.invariant-loop-act
invariant-loop-act g l = IsKeeping l.site l.futures l.hand
