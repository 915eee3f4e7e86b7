use Rattle.std.proofs.Common.{refl}
use Rattle.node_tests.proofs.Ready.{told-ready}
use Rattle.node_tests.proofs.tests.told.tells.Goals as goal

pub returns : goal.returns
returns g c =
    told-ready c.args.table.now c.args.looped.now c.tell.new.self _ c.requires.ready
    (record { names_are = refl; root = c.tell.ensures.hears.root; rest = c.tell.ensures.rest })
