use Rattle.std.proofs.Common.{true}
use Rattle.node_tests.proofs.Ready.{opens-ready, decked-ready, helps-ready}
use Rattle.node_tests.proofs.tests.decks.helping.Goals as goal

pub returns : goal.returns
returns c =
    let board = c.args.table.now in
    let opened = opens-ready board c.args.hand c.requires.hand c.in-Ok.looped c.in-Ok.ensures.opened in
    helps-ready board c.with_deck-looped.result c.help_pool.new.self true
    (decked-ready board c.in-Ok.looped c.with_deck-looped.result c.args.deck opened c.with_deck-looped.ensures) c.help_pool.ensures
