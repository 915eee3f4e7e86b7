use Rattle.std.proofs.Common.{sym, ◌∙◌, subst}
use Rattle.sig_check.specs.Checked.{AreSignatures}
use Rattle.sig_check.proofs.CheckLemmas.{signatures-found}
use Rattle.sig_check.proofs.checking.signatures.Goals as goal

pub returns : goal.returns
returns c =
    subst (AreSignatures c.args.plan.now) (sym (c.new.ensures ∙ c.in_ok-sigs_of.ensures))
    (signatures-found c.args.plan.now c.in_ok-found.found.items c.in_ok-found.ensures.all)
