use Rattle.table_steps.specs.Views.{Stays}
use Rattle.deck_relay.specs.SameDecks.{KeepsDeck}
use Rattle.exec_recv.specs.Asides.{KeepsAside}
use Rattle.node_walks.specs.Resting.{IsAtRest}
use Rattle.run_loop.specs.Serves.{MayHelp, ServesMore, moment}
use Rattle.run_loop.specs.Turns.{AreMet, ArePassed, CountsNothing}
use Rattle.run_loop.proofs.scanning.scan_block.Given as goal

abbrev pub invariant-loop-node : goal.invariant-loop-node
invariant-loop-node g l = record {
  stays : Stays l.site l.fn.hand l.hand;
  rests : IsAtRest l.hand.me.0;
  aside : KeepsAside l.fn.hand.me l.hand.me;
  served : ServesMore g.T.Stepper.does l.site (MayHelp l.helps) l.fn.taken l.taken (moment l.fn.hand l.fn.names)
      (moment l.hand l.names);
  none : CountsNothing l.fn.taken l.taken (ArePassed l.site l.fn.hand.me l.hand.me l.helps l.block l.node);
  met : AreMet l.site l.fn.hand.me l.hand.me l.helps l.block l.node;
  deck : KeepsDeck l.fn.names.deck l.names.deck;
}
