use Rattle.table_steps.specs.Views.{Stays}
use Rattle.node_walks.specs.Resting.{IsAtRest}
use Rattle.node_walks.specs.Since.{OnlyLooks}
use Rattle.run_loop.specs.Delayed.{LooksThrough}
use Rattle.run_loop.proofs.delaying.look_through.Given as goal

abbrev pub invariant-loop-delay : goal.invariant-loop-delay
invariant-loop-delay l = record {
  stays : Stays l.table l.fn.hand l.hand;
  rests : IsAtRest l.hand.me.0;
  only : OnlyLooks l.fn.hand.me l.hand.me;
  looks : LooksThrough l.table l.block l.nodes l.delay-index l.fn.hand.me l.hand.me l.fn.delays l.delays;
}
