use Rattle.plan_reader.proofs.AnswerLemmas.{IsFaultOf-early, IsPlanOf-judged, IsFaultOf-judged, fault_is_exact, plan_is_exact, too_long}
use Rattle.std.proofs.Common.{Err, ap}
use Rattle.plan_reader.proofs.read.read_plan.Goals as goal

pub returns-in-Ok : goal.returns-in-Ok
returns-in-Ok c =
    let bytes = c.args.bytes.now in
    let r = c.judged.result in
    let ok = IsPlanOf-judged bytes c.in-Ok.found r c.in-Ok.ensures.ok c.judged.ensures.ok in
    let err = IsFaultOf-judged bytes c.in-Ok.found r c.in-Ok.ensures.ok c.judged.ensures.err in
    record {
      too_long = too_long bytes r ok err;
      fault = fault_is_exact bytes r ok err;
      plan = plan_is_exact bytes r ok err;
    }

pub returns-in-Err : goal.returns-in-Err
returns-in-Err c =
    let bytes = c.args.bytes.now in
    let err = IsFaultOf-early bytes c.in-Err.fault c.in-Err.ensures.err
    (λ e. c.in-Err.ensures.memory (ap Err e)) in
    record {
      too_long = too_long bytes (Err c.in-Err.fault) tt err;
      fault = fault_is_exact bytes (Err c.in-Err.fault) tt err;
      plan = plan_is_exact bytes (Err c.in-Err.fault) tt err;
    }
