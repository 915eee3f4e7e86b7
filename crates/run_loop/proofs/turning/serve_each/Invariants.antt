use Rattle.std.proofs.Common.{◌≡◌, ◌≤◌, length}
use Rattle.table_steps.specs.Views.{Stays}
use Rattle.deck_relay.specs.SameDecks.{KeepsDeck}
use Rattle.exec_recv.specs.Asides.{KeepsAside}
use Rattle.node_walks.specs.Resting.{IsAtRest}
use Rattle.run_loop.specs.Serves.{MayHelp, ServesMore, moment}
use Rattle.run_loop.specs.Turns.{MeetsFirst, AreLeft}
use Rattle.run_loop.proofs.turning.serve_each.Given as goal

abbrev pub invariant-loop-name : goal.invariant-loop-name
invariant-loop-name g l = record {
  stays : Stays l.site l.fn.hand l.hand;
  rests : IsAtRest l.hand.me.0;
  aside : KeepsAside l.fn.hand.me l.hand.me;
  served : ServesMore g.T.Stepper.does l.site (MayHelp l.helps) 0 l.taken (moment l.fn.hand l.fn.names) (moment l.hand l.names);
  within : l.name-index ≤ length l.told;
  met : MeetsFirst g.T.Stepper.does l.site l.helps l.told l.name-index l.fn.hand.me l.hand.me;
  none : l.taken ≡ 0 → AreLeft l.site l.fn.hand.me l.hand.me l.helps l.told l.name-index;
  deck : KeepsDeck l.fn.names.deck l.names.deck;
}
