use Rattle.std.proofs.Common.{◌≤◌}
use Rattle.table_steps.specs.Views.{Stays}
use Rattle.deck_relay.specs.SameDecks.{KeepsDeck}
use Rattle.exec_recv.specs.Asides.{KeepsAside}
use Rattle.timer_wheel.specs.Delays.{count_of}
use Rattle.node_walks.specs.Resting.{IsAtRest}
use Rattle.run_loop.specs.Delayed.{MayTakeOf, TakesOut}
use Rattle.run_loop.specs.Serves.{ServesMore, moment}
use Rattle.run_loop.proofs.delaying.take_due.Given as goal

abbrev pub invariant-out : goal.invariant-out
invariant-out g l = record {
  stays : Stays l.site l.fn.hand l.hand;
  rests : IsAtRest l.hand.me.0;
  aside : KeepsAside l.fn.hand.me l.hand.me;
  served : ServesMore g.T.Stepper.does l.site (MayTakeOf l.site l.fn.delays) l.fn.taken l.taken (moment l.fn.hand l.fn.names)
      (moment l.hand l.names);
  more : l.fn.taken ≤ l.taken;
  takes : TakesOut l.site l.taken l.fn.hand.me l.hand.me l.fn.delays l.delays;
  deck : KeepsDeck l.fn.names.deck l.names.deck;
}

abbrev pub decreases-out : goal.decreases-out
decreases-out g l = count_of l.delays
