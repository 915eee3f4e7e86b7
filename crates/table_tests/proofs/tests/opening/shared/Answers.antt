use Rattle.std.proofs.Common.{arith, ◌∙◌}
use Rattle.atomic_table.proofs.Lists.{at_index}
use Rattle.table_tests.proofs.Ready.{fresh-ready}
use Rattle.table_tests.proofs.tests.opening.shared.Goals as goal

pub returns-clause-first : goal.returns-clause-first
returns-clause-first c =
    let fresh = c.in_ok-table.ensures.hands in
    let two = fresh.length_is in
    let hand = c.swap_remove-first.result in
    let same = c.swap_remove-second.ensures.by_index.1 0 hand (λ e. cc) (omega (arith, two)) in
    fresh-ready c.in_ok-table.table 2 c.in_ok-table.hands.items fresh 0 hand
    (at_index c.in_ok-table.hands.items 0 hand (omega (arith, two)) (c.swap_remove-first.ensures.value ∙ same))

pub returns-clause-second : goal.returns-clause-second
returns-clause-second c =
    let fresh = c.in_ok-table.ensures.hands in
    let two = fresh.length_is in
    let hand = c.swap_remove-second.result in
    fresh-ready c.in_ok-table.table 2 c.in_ok-table.hands.items fresh 1 hand
    (at_index c.in_ok-table.hands.items 1 hand (omega (arith, two)) c.swap_remove-second.ensures.value)
