use Rattle.record_operations.proofs.Holding.{post-here}
use Rattle.record_operations.proofs.Learned.{learns-none}
use Rattle.record_operations.proofs.rounds.drain.Goals as goal

pub returns-in-None-clause-learns : goal.returns-in-None-clause-learns
returns-in-None-clause-learns g c = learns-none c.args.looped.now

pub returns-in-None-clause-post : goal.returns-in-None-clause-post
returns-in-None-clause-post g c = post-here c.args.post.now

pub returns-in-Some-clause-learns : goal.returns-in-Some-clause-learns
returns-in-Some-clause-learns g c =
    record { more = c.drain-drained.ensures.more; rest = c.drain-drained.ensures.rest.rest; deck = c.drain-drained.ensures.deck }
