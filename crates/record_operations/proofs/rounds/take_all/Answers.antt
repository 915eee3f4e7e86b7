use Rattle.exec_recv.proofs.Sites.{over-site}
use Rattle.record_operations.proofs.rounds.take_all.Goals as goal

pub turn-requires-clause-ready : goal.turn-requires-clause-ready
turn-requires-clause-ready g c κs within = rw c.of-site.ensures c.requires.ready

pub turn-requires-clause-site : goal.turn-requires-clause-site
turn-requires-clause-site g c κs within =
    rw c.of-site.ensures (over-site c.args.table.now (g.T.Stepper.plan c.args.stepper.now) c.requires.over c.requires.kinds)

pub returns-then-looks-clause-ready : goal.returns-then-looks-clause-ready
returns-then-looks-clause-ready g c = rw c.of-site.ensures at c.turn.ensures.ready

pub returns-then-looks-clause-met : goal.returns-then-looks-clause-met
returns-then-looks-clause-met g c = rw c.of-site.ensures at c.turn.ensures.met

pub returns-then-looks-clause-served : goal.returns-then-looks-clause-served
returns-then-looks-clause-served g c = rw c.of-site.ensures at c.turn.ensures.served

pub poll-requires-clause-ready : goal.poll-requires-clause-ready
poll-requires-clause-ready g c κs within = rw c.of-site.ensures c.requires.ready

pub poll-requires-clause-site : goal.poll-requires-clause-site
poll-requires-clause-site g c κs within =
    rw c.of-site.ensures (over-site c.args.table.now (g.T.Stepper.plan c.args.stepper.now) c.requires.over c.requires.kinds)

pub returns-else-looks-clause-ready : goal.returns-else-looks-clause-ready
returns-else-looks-clause-ready g c = rw c.of-site.ensures at c.poll.ensures.ready

pub returns-else-looks-clause-met : goal.returns-else-looks-clause-met
returns-else-looks-clause-met g c = rw c.of-site.ensures at c.poll.ensures.met

pub returns-else-looks-clause-served : goal.returns-else-looks-clause-served
returns-else-looks-clause-served g c = rw c.of-site.ensures at c.poll.ensures.served
