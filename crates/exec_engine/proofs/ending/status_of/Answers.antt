use Rattle.std.proofs.Common.{Bool, false, sym, ap, ◌∙◌}
use Rattle.record_lines.specs.declared.ending.End.{End}
use Rattle.exec_engine.specs.Statuses.{status_at}
use Rattle.exec_engine.proofs.ending.status_of.Goals as goal

pub returns-then-is_lost : goal.returns-then-is_lost
returns-then-is_lost c =
    let ending = c.args.ending.now in
    sym (ap (λ (lost : Bool). status_at lost ending.end ending.summary) (sym c.is_lost.ensures ∙ c.if-is_lost.true))

pub returns-in-Fault : goal.returns-in-Fault
returns-in-Fault c =
    let ending = c.args.ending.now in
    sym (ap (λ (lost : Bool). status_at lost ending.end ending.summary) (sym c.is_lost.ensures ∙ c.if-is_lost.false)
    ∙ ap (λ (end : End). status_at false end ending.summary) (sym c.end.ensures ∙ c.in-Fault.is))
