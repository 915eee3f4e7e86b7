use Rattle.node_tests.proofs.Ready.{read-runs}
use Rattle.node_tests.proofs.tests.read.Goals as goal

pub returns-in-Ok : goal.returns-in-Ok
returns-in-Ok c =
    read-runs c.args.bytes.now c.in-Ok.plan ((c.read_plan.ensures.plan c.in-Ok.plan).0 c.in-Ok.is).0 c.size.ensures.plan
