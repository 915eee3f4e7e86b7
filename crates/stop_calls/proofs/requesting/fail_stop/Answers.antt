use Rattle.std.proofs.Common.{true, not, ap}
use Rattle.life_rules.specs.declared.event.SourceRef.TheVariants.{Node}
use Rattle.stop_calls.proofs.Asking.{asked-for}
use Rattle.stop_calls.proofs.requesting.fail_stop.Goals as goal

pub returns-clause-failed : goal.returns-clause-failed
returns-clause-failed g c =
    let asked = c.request_step-read.ensures.asked in
    record {
      asked = asked-for c.args.table.now (Node c.args.node) true c.request_step-read.result c.answer.result c.args.hand.now
          c.request_step-read.new.hand asked c.answer.ensures;
      first_is = ap (λ b. not b.failed) asked.answer_is;
    }
