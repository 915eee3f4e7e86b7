use Rattle.std.proofs.Common.{◌≡◌}
use Rattle.deck_relay.specs.SameDecks.{KeepsDeck}
use Rattle.run_loop.specs.Loops.{deck_of}
use Rattle.record_operations.proofs.Telling.{Completes}
use Rattle.record_operations.proofs.later_mail.LaterMail.tell.Given as goal

abbrev pub invariant-loop-ready : goal.invariant-loop-ready
invariant-loop-ready g l = record {
  rest : l.looped ≡ record l.fn.looped { names = l.looped.names };
  deck : KeepsDeck (deck_of l.fn.looped) (deck_of l.looped);
  tells : Completes l.fn.self.list.items l.fn.looped.names l.ready-index l.looped.names;
}
