use Rattle.std.proofs.Common.{sym, subst}
use Rattle.plan_reader.specs.declared.fault.PlanFault.{PlanFault}
use Rattle.plan_reader.specs.PlanFile.{IsRefused}
use Rattle.plan_reader.proofs.AnswerLemmas.{IsRefused-checked}
use Rattle.plan_reader.proofs.read.check_nodes.Goals as goal

pub returns-in-Err-clause-err : goal.returns-in-Err-clause-err
returns-in-Err-clause-err c =
    let P : PlanFault → Type 0 = IsRefused c.args.found.now in
    subst P (sym c.kinds_fault.ensures)
    (IsRefused-checked c.args.found.now c.in-Err.fault c.in-Err.ensures.fault)
