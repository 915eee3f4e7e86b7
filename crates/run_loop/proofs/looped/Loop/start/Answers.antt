use Rattle.std.proofs.Common.{◌∙◌}
use Rattle.run_loop.proofs.looped.Loop.start.Goals as goal

pub returns-clause-ready : goal.returns-clause-ready
returns-clause-ready g c =
    record {
      hand = c.begin_root.ensures.stays.hand;
      first = c.begin_root.ensures.number ∙ c.requires.ready.first;
      rests = c.begin_root.ensures.rests;
      next = c.requires.ready.next;
      delays = c.requires.ready.delays;
    }
