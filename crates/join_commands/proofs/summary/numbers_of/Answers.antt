use Rattle.std.proofs.Common.{◌≡◌, ℕ, List, sym, ap, subst, ◌∙◌}
use Rattle.std.specs.Prelude.{IfErr}
use Rattle.exec_io.specs.Shelves.{text_of}
use Rattle.join_commands.specs.declared.summary.Numbers.{Numbers}
use Rattle.join_commands.specs.Parts.{out_name}
use Rattle.join_commands.specs.Unsummed.{IsSumFault}
use Rattle.join_commands.proofs.EndLaws.{handed_err}
use Rattle.join_commands.proofs.OpenLaws.{opened_text}
use Rattle.join_commands.proofs.UnsumLaws.{of_unread}
use Rattle.join_commands.proofs.summary.numbers_of.Goals as goal

pub returns-in_err-numbers-clause-refused : goal.returns-in_err-numbers-clause-refused
returns-in_err-numbers-clause-refused g c = λ all known.
    let named : c.deref.result.now ≡ out_name c.args.name.now = c.deref.ensures ∙ c.in-Ok.ensures in
    let has = opened_text g.F.Folder.left _ all c.deref.result.now c.in-Ok-open.file (c.in_ok-told.ensures.same ∙ known) c.in-Ok-open.ensures.opens in
    let handed = handed_err c.from_residual-in_err-numbers.result c.in_err-numbers.field-0.0 c.from_residual-in_err-numbers.ensures.0 c.from_residual-in_err-numbers.ensures.1 in
    subst (λ r. IfErr {T = Numbers} r (IsSumFault all c.args.name.now)) (sym handed)
    (of_unread all c.args.name.now has.0 c.in_err-numbers.field-0.0 (ap (λ (n : List ℕ). text_of all n) (sym named) ∙ has.1) (c.in_err-numbers.ensures.refused has.0 has.2))

pub returns-in_err-told-clause-same : goal.returns-in_err-told-clause-same
returns-in_err-told-clause-same g c = c.in_err-told.ensures.same

pub returns-in_default-clause-same : goal.returns-in_default-clause-same
returns-in_default-clause-same g c = c.in_ok-told.ensures.same

pub returns-in-Err-Missing-clause-same : goal.returns-in-Err-Missing-clause-same
returns-in-Err-Missing-clause-same g c = c.in-Err-Missing.ensures.same ∙ c.in_ok-told.ensures.same

pub returns-in-Err-Failed-clause-same : goal.returns-in-Err-Failed-clause-same
returns-in-Err-Failed-clause-same g c = c.in-Err-Failed.ensures.same ∙ c.in_ok-told.ensures.same

pub returns-in-Err-NoMemory-clause-same : goal.returns-in-Err-NoMemory-clause-same
returns-in-Err-NoMemory-clause-same g c = c.in-Err-NoMemory.ensures.same ∙ c.in_ok-told.ensures.same

pub returns-in_err-numbers-clause-same : goal.returns-in_err-numbers-clause-same
returns-in_err-numbers-clause-same g c = c.in_err-numbers.ensures.same ∙ c.in-Ok-open.ensures.same ∙ c.in_ok-told.ensures.same

pub returns-then-eq-clause-same : goal.returns-then-eq-clause-same
returns-then-eq-clause-same g c = c.in_ok-numbers.ensures.same ∙ c.in-Ok-open.ensures.same ∙ c.in_ok-told.ensures.same

pub returns-clause-same : goal.returns-clause-same
returns-clause-same g c = c.in_ok-numbers.ensures.same ∙ c.in-Ok-open.ensures.same ∙ c.in_ok-told.ensures.same
