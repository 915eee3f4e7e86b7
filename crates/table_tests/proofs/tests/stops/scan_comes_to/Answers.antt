use Rattle.table_use.proofs.Roots.{still-root}
use Rattle.table_tests.proofs.tests.stops.scan_comes_to.Goals as goal

pub removes-settled-requires-clause-holds : goal.removes-settled-requires-clause-holds
removes-settled-requires-clause-holds g c =
    still-root c.args.table.now _ c.armed.new.hand.me c.asks_all-runs.new.hand.me _ c.asks_all-runs.ensures.holds c.in-Ok.ensures.holds
