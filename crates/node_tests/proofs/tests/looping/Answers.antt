use Rattle.node_tests.proofs.Ready.{opens-ready, helps-ready}
use Rattle.node_tests.proofs.tests.looping.Goals as goal

pub returns-in-Ok-clause-ready : goal.returns-in-Ok-clause-ready
returns-in-Ok-clause-ready c =
    helps-ready c.in-Some.table c.in-Ok.looped c.help_pool.new.self c.args.helps
    (opens-ready c.in-Some.table c.in-Some.hand c.in-Some.ensures.hand c.in-Ok.looped c.in-Ok.ensures.opened) c.help_pool.ensures
