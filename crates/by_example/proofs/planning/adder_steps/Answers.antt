use Rattle.std.proofs.Common.{subst}
use Rattle.sig_check.specs.Checked.{IsFaultOf}
use Rattle.sig_check.specs.declared.fault.SigFault.{SigFault}
use Rattle.by_example.proofs.AdderKinds.{no-mismatch}
use Rattle.by_example.proofs.planning.adder_steps.Goals as goal

pub unreachable-requires : goal.unreachable-requires
unreachable-requires c =
    no-mismatch c.args.plan.now c.in-Err-Kinds.field-0-0 c.requires.plan
    (subst (λ (fault : SigFault). IsFaultOf c.args.plan.now fault) c.in-Err-Kinds.field-0-is c.in-Err-Kinds.ensures.fault)
