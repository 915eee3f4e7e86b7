use Rattle.std.proofs.Common.{◌≡◌}
use Rattle.table_steps.specs.Views.{Stays}
use Rattle.deck_relay.specs.SameDecks.{KeepsDeck}
use Rattle.exec_recv.specs.Asides.{KeepsAside}
use Rattle.node_walks.specs.Resting.{IsAtRest}
use Rattle.run_loop.specs.Serves.{MayHelp, ServesMore, moment}
use Rattle.run_loop.specs.Turns.{AreMetBelow, ArePassedBelow}
use Rattle.run_loop.proofs.scanning.scan_blocks.Given as goal

abbrev pub invariant-loop-block : goal.invariant-loop-block
invariant-loop-block g l = record {
  stays : Stays l.site l.fn.hand l.hand;
  rests : IsAtRest l.hand.me.0;
  aside : KeepsAside l.fn.hand.me l.hand.me;
  served : ServesMore g.T.Stepper.does l.site (MayHelp l.helps) 0 l.taken (moment l.fn.hand l.fn.names) (moment l.hand l.names);
  none : l.taken ≡ 0 → ArePassedBelow l.site l.fn.hand.me l.hand.me l.helps l.block;
  met : AreMetBelow l.site l.fn.hand.me l.hand.me l.helps l.block;
  deck : KeepsDeck l.fn.names.deck l.names.deck;
}
