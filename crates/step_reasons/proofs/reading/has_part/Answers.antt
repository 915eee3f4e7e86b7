use Rattle.std.proofs.Common.{ap, sym, ◌∙◌}
use Rattle.exec_life.specs.StateLists.{machine}
use Rattle.step_reasons.specs.declared.reading.Part.{Part}
use Rattle.step_reasons.specs.Standings.{has_part}
use Rattle.step_reasons.proofs.Views.{one-least}
use Rattle.step_reasons.proofs.reading.has_part.Goals as goal

pub returns-in-Holds : goal.returns-in-Holds
returns-in-Holds c =
    let s = machine c.args.state.now in
    c.holds.ensures ∙ one-least _ _ (c.view-view.ensures.tells.holds c.args.place)
    ∙ sym (ap (λ (part : Part). has_part s part c.args.place c.args.hand) c.in-Holds.is)

pub returns-in-OwesStart : goal.returns-in-OwesStart
returns-in-OwesStart c =
    let s = machine c.args.state.now in
    c.owes_start.ensures ∙ one-least _ _ (c.view-view.ensures.tells.starts c.args.place)
    ∙ sym (ap (λ (part : Part). has_part s part c.args.place c.args.hand) c.in-OwesStart.is)

pub returns-in-OwesReport : goal.returns-in-OwesReport
returns-in-OwesReport c =
    let s = machine c.args.state.now in
    c.owes_report.ensures ∙ one-least _ _ (c.view-view.ensures.tells.reports c.args.place)
    ∙ sym (ap (λ (part : Part). has_part s part c.args.place c.args.hand) c.in-OwesReport.is)

pub returns-in-HoldsFinished : goal.returns-in-HoldsFinished
returns-in-HoldsFinished c =
    let s = machine c.args.state.now in
    c.holds_finished.ensures ∙ one-least _ _ (c.view-view.ensures.tells.finished c.args.place.block)
    ∙ sym (ap (λ (part : Part). has_part s part c.args.place c.args.hand) c.in-HoldsFinished.is)

pub returns-in-Runs : goal.returns-in-Runs
returns-in-Runs c =
    let s = machine c.args.state.now in
    c.runs.ensures ∙ one-least _ _ (c.view-view.ensures.tells.runs c.args.place)
    ∙ sym (ap (λ (part : Part). has_part s part c.args.place c.args.hand) c.in-Runs.is)
