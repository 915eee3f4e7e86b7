use Rattle.table_steps.specs.Views.{Stays}
use Rattle.node_walks.specs.Resting.{IsAtRest}
use Rattle.node_walks.specs.Since.{OnlyLooks}
use Rattle.run_loop.specs.Delayed.{LooksBelow}
use Rattle.run_loop.proofs.delaying.look_round.Given as goal

abbrev pub invariant-loop-block : goal.invariant-loop-block
invariant-loop-block l = record {
  stays : Stays l.table l.fn.hand l.hand;
  rests : IsAtRest l.hand.me.0;
  only : OnlyLooks l.fn.hand.me l.hand.me;
  looks : LooksBelow l.table l.nodes l.block l.fn.hand.me l.hand.me l.fn.delays l.delays;
}
