use Rattle.table_use.proofs.Roots.{still-root}
use Rattle.table_tests.proofs.tests.stops.second_finds_first.Goals as goal

pub removes-settled-requires-clause-holds : goal.removes-settled-requires-clause-holds
removes-settled-requires-clause-holds g c =
    still-root c.args.table.now _ c.armed.new.hand.me c.asks_all-second.new.hand.me _ c.asks_all-second.ensures.holds c.in-Ok.ensures.holds
