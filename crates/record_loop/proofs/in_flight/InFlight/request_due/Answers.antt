use Rattle.std.proofs.Common.{ℕ, ◌+◌, Some, sym, ap, ◌∙◌}
use Rattle.record_loop.proofs.StandingLaws.{Standing-counts, Standing-asks}
use Rattle.record_loop.proofs.in_flight.InFlight.request_due.Goals as goal

pub returns-then-not-is_due-clause-counts : goal.returns-then-not-is_due-clause-counts
returns-then-not-is_due-clause-counts g c = λ sink opening lines standing.
    Standing-counts (λ is. c.is_due.ensures.no c.if-not-is_due.true (is ∙ ap (λ (n : ℕ). Some (n + 1)) (sym c.count_read.ensures.value))) standing

pub returns-clause-counts : goal.returns-clause-counts
returns-clause-counts g c = λ sink opening lines standing.
    let requested = c.request.ensures.requested in
    Standing-asks standing c.requires.room c.request.ensures.again c.request.ensures.first requested.requested requested.slots requested.printer requested.settings_are
    (c.is_due.ensures.yes c.if-not-is_due.false ∙ ap (λ (n : ℕ). Some (n + 1)) c.count_read.ensures.value)
