use Rattle.node_walks.specs.Completes.{IsListed}
use Rattle.run_loop.specs.Loops.{IsReady}
use Rattle.node_tests.proofs.tests.turns_until.Given as goal

abbrev pub invariant-loop-turns : goal.invariant-loop-turns
invariant-loop-turns g l = record {
  ready : IsReady l.site l.looped;
  listed : IsListed l.site l.block l.looped.hand.me;
}
