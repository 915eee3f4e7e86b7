use Rattle.exec_engine.proofs.OpeningLaws.{opened}
use Rattle.exec_engine.proofs.opening.plan_in.Goals as goal

pub returns-in-Ok-clause-ok : goal.returns-in-Ok-clause-ok
returns-in-Ok-clause-ok c =
    opened c.args.bytes.now c.in-Ok.plan ((c.read_plan.ensures.plan c.in-Ok.plan).0 c.in-Ok.is).0 c.size.ensures.plan
