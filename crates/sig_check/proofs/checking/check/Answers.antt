use Rattle.std.specs.Prelude.{position}
use Rattle.std.proofs.Common.{sym, ap, ◌∙◌, subst}
use Rattle.sig_check.specs.Checked.{AreSignatures}
use Rattle.sig_check.specs.Findings.{is_mismatch}
use Rattle.sig_check.proofs.CheckLemmas.{kinds-matched, first-found, signatures-found}
use Rattle.sig_check.proofs.checking.check.Goals as goal

pub returns-in-Some-clause-fault : goal.returns-in-Some-clause-fault
returns-in-Some-clause-fault c =
    first-found c.args.plan.now c.in_ok-findings.findings.items c.in_ok-findings.ensures.all c.in-Some.node
    (ap (position is_mismatch) (sym c.deref.ensures.value) ∙ sym c.in-Some.ensures)

pub returns-in_ok-sigs_of-in-None-clause-ok : goal.returns-in_ok-sigs_of-in-None-clause-ok
returns-in_ok-sigs_of-in-None-clause-ok c =
    kinds-matched c.args.plan.now c.in_ok-findings.findings.items c.in_ok-findings.ensures.all
    (ap (position is_mismatch) (sym c.deref.ensures.value) ∙ sym c.in-None.ensures)

pub returns-in_ok-sigs_of-in-None-clause-signatures : goal.returns-in_ok-sigs_of-in-None-clause-signatures
returns-in_ok-sigs_of-in-None-clause-signatures c =
    subst (AreSignatures c.args.plan.now) (sym (c.new.ensures ∙ c.in_ok-sigs_of-in-None.ensures))
    (signatures-found c.args.plan.now c.in_ok-findings.findings.items c.in_ok-findings.ensures.all)
