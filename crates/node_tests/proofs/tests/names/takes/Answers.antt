use Rattle.run_loop.proofs.OneRun.{listed-still}
use Rattle.node_tests.proofs.tests.names.takes.Goals as goal

pub returns-clause-listed : goal.returns-clause-listed
returns-clause-listed g c =
    listed-still c.args.site.now c.args.block c.args.looped.now.hand.me c.serve.new.hand.me c.serve.ensures.aside c.requires.listed
