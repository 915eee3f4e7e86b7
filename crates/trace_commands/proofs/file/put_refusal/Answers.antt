use Rattle.std.proofs.Common.{sym, subst}
use Rattle.std.specs.Prelude.{OnOk, OnErr}
use Rattle.exec_status.specs.Sinks.{TellsAll, TellsFront}
use Rattle.trace_commands.specs.declared.file.Refusal.{Refusal}
use Rattle.trace_commands.specs.Refusals.{told_refusal}
use Rattle.trace_commands.proofs.file.put_refusal.Goals as goal

pub returns-in-TooLong-clause-err : goal.returns-in-TooLong-clause-err
returns-in-TooLong-clause-err g c =
    let view = g.N.Sink.told in
    subst (λ (r : Refusal). OnErr c.tell.result (TellsFront (view c.args.notes.now) (view c.tell.new.sink) (told_refusal r))) (sym c.in-TooLong.is)
    c.tell.ensures.err

pub returns-in-Line-clause-ok : goal.returns-in-Line-clause-ok
returns-in-Line-clause-ok g c =
    let view = g.N.Sink.told in
    subst (λ (r : Refusal). OnOk c.tell_numbered.result (TellsAll (view c.args.notes.now) (view c.tell_numbered.new.sink) (told_refusal r))) (sym c.in-Line.is)
    c.tell_numbered.ensures.ok

pub returns-in-Line-clause-err : goal.returns-in-Line-clause-err
returns-in-Line-clause-err g c =
    let view = g.N.Sink.told in
    subst (λ (r : Refusal). OnErr c.tell_numbered.result (TellsFront (view c.args.notes.now) (view c.tell_numbered.new.sink) (told_refusal r))) (sym c.in-Line.is)
    c.tell_numbered.ensures.err
