use Rattle.std.proofs.Common.{sym, subst}
use Rattle.exec_status.specs.declared.status.Status.TheVariants.{AllValues, NotAllValues, WriteFault}
use Rattle.replay_core.specs.declared.check.Verdict.{Verdict}
use Rattle.trace_commands.specs.Answers.{Prints, verdict_status, verdict_text}
use Rattle.trace_commands.specs.Answers.Prints.{whole, front}
use Rattle.trace_commands.proofs.checking.print_verdict.Goals as goal

pub returns-in-Ok-clause-prints : goal.returns-in-Ok-clause-prints
returns-in-Ok-clause-prints g c =
    let view = g.K.Sink.told in
    subst (λ (v : Verdict). Prints (verdict_status v) (verdict_text v) (view c.args.out.now) (view c.tell_numbered.new.sink) AllValues) (sym c.in-Taken.is)
    (whole c.in-Ok.ensures.ok)

pub returns-in-Err-clause-prints : goal.returns-in-Err-clause-prints
returns-in-Err-clause-prints g c =
    let view = g.K.Sink.told in
    subst (λ (v : Verdict). Prints (verdict_status v) (verdict_text v) (view c.args.out.now) (view c.tell_numbered.new.sink) WriteFault) (sym c.in-Taken.is)
    (front c.in-Err.ensures.err)

pub returns-in-Ok-tell_numbered-clause-prints : goal.returns-in-Ok-tell_numbered-clause-prints
returns-in-Ok-tell_numbered-clause-prints g c =
    let view = g.K.Sink.told in
    subst (λ (v : Verdict). Prints (verdict_status v) (verdict_text v) (view c.args.out.now) (view c.tell_numbered-in-Refused.new.sink) NotAllValues) (sym c.in-Refused.is)
    (whole c.in-Ok-tell_numbered.ensures.ok)

pub returns-in-Err-tell_numbered-clause-prints : goal.returns-in-Err-tell_numbered-clause-prints
returns-in-Err-tell_numbered-clause-prints g c =
    let view = g.K.Sink.told in
    subst (λ (v : Verdict). Prints (verdict_status v) (verdict_text v) (view c.args.out.now) (view c.tell_numbered-in-Refused.new.sink) WriteFault) (sym c.in-Refused.is)
    (front c.in-Err-tell_numbered.ensures.err)
