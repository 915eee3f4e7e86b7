use Rattle.std.proofs.Common.{ap, ◌∙◌}
use Rattle.record_loop.specs.declared.printer.Printer.{Printer}
use Rattle.record_loop.proofs.StandingLaws.{counting, kind-counted}
use Rattle.record_loop.proofs.in_flight.InFlight.take.Goals as goal

pub request_due-requires-clause-counting : goal.request_due-requires-clause-counting
request_due-requires-clause-counting g c = λ κs lives.
    counting c.requires.going.going.standing

pub begin_next-requires-clause-kind : goal.begin_next-requires-clause-kind
begin_next-requires-clause-kind g c = λ κs lives.
    let may = c.requires.going in
    kind-counted (c.request_due.ensures.counts may.sink may.going.opening may.going.lines may.going.standing)

pub returns-clause-takes : goal.returns-clause-takes
returns-clause-takes g c = λ sink opening lines line text kept standing.
    c.begin_next.ensures.begun sink opening lines line text (ap (λ (p : Printer). p.lost) c.request_due.ensures.printer ∙ kept) (c.request_due.ensures.counts sink opening lines standing)
