use Rattle.std.proofs.Common.{arith, ◌∙◌}
use Rattle.atomic_table.proofs.Lists.{at_index}
use Rattle.table_tests.proofs.Ready.{fresh-ready}
use Rattle.table_tests.proofs.tests.opening.full_for_two.Goals as goal

pub returns-clause-first : goal.returns-clause-first
returns-clause-first c =
    let fresh = c.in_ok-table.ensures.hands in
    let three = fresh.length_is in
    let one_less = c.swap_remove-third.ensures.len in
    let hand = c.swap_remove-first.result in
    let before = c.swap_remove-third.ensures.by_index.1 0 hand (λ e. cc) (omega (arith, three)) in
    let same = c.swap_remove-second.ensures.by_index.1 0 hand (λ e. cc) (omega (arith, three, one_less)) in
    fresh-ready c.in_ok-table.table 3 c.in_ok-table.hands.items fresh 0 hand
    (at_index c.in_ok-table.hands.items 0 hand (omega (arith, three)) (c.swap_remove-first.ensures.value ∙ same ∙ before))

pub returns-clause-second : goal.returns-clause-second
returns-clause-second c =
    let fresh = c.in_ok-table.ensures.hands in
    let three = fresh.length_is in
    let hand = c.swap_remove-second.result in
    let same = c.swap_remove-third.ensures.by_index.1 1 hand (λ e. cc) (omega (arith, three)) in
    fresh-ready c.in_ok-table.table 3 c.in_ok-table.hands.items fresh 1 hand
    (at_index c.in_ok-table.hands.items 1 hand (omega (arith, three)) (c.swap_remove-second.ensures.value ∙ same))

pub returns-clause-third : goal.returns-clause-third
returns-clause-third c =
    let fresh = c.in_ok-table.ensures.hands in
    let three = fresh.length_is in
    let hand = c.swap_remove-third.result in
    fresh-ready c.in_ok-table.table 3 c.in_ok-table.hands.items fresh 2 hand
    (at_index c.in_ok-table.hands.items 2 hand (omega (arith, three)) c.swap_remove-third.ensures.value)
