use Rattle.std.proofs.Common.{arith}
use Rattle.atomic_table.proofs.Lists.{at_index}
use Rattle.table_tests.proofs.Ready.{fresh-ready}
use Rattle.table_tests.proofs.tests.opening.alone.Goals as goal

pub returns-clause-hand : goal.returns-clause-hand
returns-clause-hand c =
    let fresh = c.in_ok-table.ensures.hands in
    let one = fresh.length_is in
    let hand = c.swap_remove-hand.result in
    fresh-ready c.in_ok-table.table 1 c.in_ok-table.hands.items fresh 0 hand
    (at_index c.in_ok-table.hands.items 0 hand (omega (arith, one)) c.swap_remove-hand.ensures.value)
