use Rattle.std.proofs.Common.{◌≡◌, sym, subst, ◌∙◌, rules}
use Rattle.std.specs.Prelude.{IfErr}
use Rattle.exec_io.specs.Shelves.{text_of}
use Rattle.join_commands.specs.Parts.{out_name}
use Rattle.part_lines.specs.declared.tally.Tally.{Tally}
use Rattle.join_commands.specs.Faults.{IsLookFault}
use Rattle.join_commands.proofs.EndLaws.{handed_err}
use Rattle.join_commands.proofs.LookLaws.{text_there, stopped, whole, differs}
use Rattle.join_commands.proofs.StatusLaws.{look_of_status}
use Rattle.join_commands.proofs.look.look_through.Goals as goal

pub returns-in_err-told-clause-fault : goal.returns-in_err-told-clause-fault
returns-in_err-told-clause-fault g c = λ all known.
    let handed = handed_err c.from_residual.result c.in_err-told.field-0.0 c.from_residual.ensures.0 c.from_residual.ensures.1 in
    subst (λ r. IfErr {T = Tally} r (IsLookFault all c.args.name.now)) (sym handed) (look_of_status all c.args.name.now c.in_err-told.field-0.0 (c.in_err-told.ensures.fault all known))

pub returns-in-Err-clause-fault : goal.returns-in-Err-clause-fault
returns-in-Err-clause-fault g c = λ all known.
    let there = text_there (text_of all (out_name c.args.name.now)) c.in_ok-reader.reader.ahead (c.in_ok-reader.ensures.opens all (c.in_ok-told.ensures.same ∙ known)) in
    stopped all c.args.name.now there.0 c.in-Err.fault c.of_lines.result there.1 (c.in-Err.ensures.fault there.0 there.2) c.of_lines.ensures

pub returns-then-eq-clause-whole : goal.returns-then-eq-clause-whole
returns-then-eq-clause-whole g c = λ all known.
    let there = text_there (text_of all (out_name c.args.name.now)) c.in_ok-reader.reader.ahead (c.in_ok-reader.ensures.opens all (c.in_ok-told.ensures.same ∙ known)) in
    let same : c.in_ok-told.told ≡ c.status_of-found.result = search rules in
    whole all c.args.name.now there.0 c.in-Ok.tally c.in_ok-told.told c.status_of-found.result there.1 (c.in-Ok.ensures.counted there.0 there.2) (c.in_ok-told.ensures.told all known) c.status_of-found.ensures same

pub returns-clause-fault : goal.returns-clause-fault
returns-clause-fault g c = λ all known.
    let there = text_there (text_of all (out_name c.args.name.now)) c.in_ok-reader.reader.ahead (c.in_ok-reader.ensures.opens all (c.in_ok-told.ensures.same ∙ known)) in
    let other : c.in_ok-told.told ≡ c.status_of-found.result → ⊥ = search rules in
    differs all c.args.name.now there.0 c.in-Ok.tally c.in_ok-told.told c.status_of-found.result there.1 (c.in-Ok.ensures.counted there.0 there.2) (c.in_ok-told.ensures.told all known) c.status_of-found.ensures other

pub returns-in_err-reader-clause-same : goal.returns-in_err-reader-clause-same
returns-in_err-reader-clause-same g c = c.in_err-reader.ensures.same ∙ c.in_ok-told.ensures.same

pub returns-in-Err-clause-same : goal.returns-in-Err-clause-same
returns-in-Err-clause-same g c = c.in-Err.ensures.same ∙ c.in_ok-reader.ensures.same ∙ c.in_ok-told.ensures.same

pub returns-then-eq-clause-same : goal.returns-then-eq-clause-same
returns-then-eq-clause-same g c = c.in-Ok.ensures.same ∙ c.in_ok-reader.ensures.same ∙ c.in_ok-told.ensures.same

pub returns-clause-same : goal.returns-clause-same
returns-clause-same g c = c.in-Ok.ensures.same ∙ c.in_ok-reader.ensures.same ∙ c.in_ok-told.ensures.same
