use Rattle.std.proofs.Common.{Bool, sym, ap, ◌∙◌, subst}
use Rattle.line_summary.specs.declared.summary.Summary.{Summary}
use Rattle.record_loop.specs.declared.ending.Ending.{Ending}
use Rattle.record_loop.specs.Printing.{Finished}
use Rattle.record_loop.proofs.in_flight.InFlight.finish.Goals as goal

pub returns-clause-stays_lost : goal.returns-clause-stays_lost
returns-clause-stays_lost g c = λ lost.
    ap (λ (e : Ending). e.lost) c.new.ensures ∙ c.is_lost.ensures ∙ c.finish.ensures.stays_lost lost

pub returns-clause-finished : goal.returns-clause-finished
returns-clause-finished g c = λ form start outcomes printed.
    let told = g.K.Sink.told c.finish.new.out in
    subst (λ (lost : Bool). Finished form start told c.new.result.summary lost outcomes)
    (sym (ap (λ (e : Ending). e.lost) c.new.ensures ∙ c.is_lost.ensures))
    (subst (λ (summary : Summary). Finished form start told summary c.finish.new.self.lost outcomes)
    (sym (ap (λ (e : Ending). e.summary) c.new.ensures ∙ c.summary.ensures))
    (c.finish.ensures.finished form start outcomes printed))
