use Rattle.std.specs.Prelude.{ℕ}
use Rattle.table_steps.specs.Views.{IsSameHand}
use Rattle.deck_relay.specs.SameDecks.{KeepsDeck}
use Rattle.exec_recv.specs.Asides.{KeepsAside}
use Rattle.run_loop.specs.Loops.{IsReady, KeepsCounts, deck_of}
use Rattle.run_loop.specs.Waits.{TurnsMany}
use Rattle.run_loop.proofs.looped.Loop.turn_until.Given as goal

abbrev pub invariant-loop : goal.invariant-loop
invariant-loop g l = record {
  next : (goal.iterator-loop g).can_next l.iterator';
  finite : (goal.iterator-loop g).is_finite l.iterator';
  ready : IsReady l.site l.self;
  same : IsSameHand l.fn.self.hand l.self.hand;
  aside : KeepsAside l.fn.self.hand.me l.self.hand.me;
  counts : KeepsCounts l.fn.self l.self;
  deck : KeepsDeck (deck_of l.fn.self) (deck_of l.self);
  turns : (count : ℕ) × TurnsMany g.T.Stepper.does l.site l.block count l.fn.self l.self;
}
