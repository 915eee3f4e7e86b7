use Rattle.exec_delay.proofs.Ended.{end-ends}
use Rattle.exec_delay.proofs.Withdrawn.{ran-sees}
use Rattle.step_parts.proofs.Ended.{taken-on}
use Rattle.exec_delay.proofs.ending.end_delay.Goals as goal

pub complete-requires : goal.complete-requires
complete-requires g c =
    let withdrawn = c.withdraw_callback-ran in
    record {
      may = end-ends c.args.site.now c.args.taken c.args.hand.now withdrawn.new.hand c.requires.may
          (taken-on c.args.site.now c.args.taken c.args.hand.now withdrawn.new.hand withdrawn.ensures.keeps c.requires.may.delay.taken) withdrawn.result
          (ran-sees c.args.site.now c.args.taken.name withdrawn.result c.args.hand.now withdrawn.new.hand withdrawn.ensures.withdraws)
          c.put_scheduled.new.done c.put_scheduled.ensures;
    }
