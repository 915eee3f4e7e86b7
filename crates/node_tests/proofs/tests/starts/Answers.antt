use Rattle.run_loop.proofs.OneRun.{started-listed}
use Rattle.node_tests.proofs.tests.starts.Goals as goal

pub returns-in-Ok-clause-listed : goal.returns-in-Ok-clause-listed
returns-in-Ok-clause-listed g c =
    started-listed c.args.site.now c.in-Ok.block c.in-Some.env c.args.looped.now c.start.new.self c.in-Ok.ensures.started
    c.in-Some.ensures
