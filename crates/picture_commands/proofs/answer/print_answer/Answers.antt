use Rattle.std.proofs.Common.{sym, subst}
use Rattle.exec_status.specs.declared.status.Status.{Status}
use Rattle.exec_status.specs.Sinks.{TellsAll, TellsFront}
use Rattle.trace_commands.specs.Answers.{Prints}
use Rattle.trace_commands.specs.Answers.Prints.{whole, front}
use Rattle.picture_commands.specs.Answers.{status_of}
use Rattle.picture_commands.proofs.answer.print_answer.Goals as goal

pub returns-in-Ok-clause-prints : goal.returns-in-Ok-clause-prints
returns-in-Ok-clause-prints g c =
    let answer = c.args.answer.now in
    let old = g.K.Sink.told c.args.out.now in
    let new = g.K.Sink.told c.tell.new.sink in
    let all = subst (TellsAll old new) c.deref.ensures.value c.in-Ok.ensures.ok in
    subst (λ (s : Status). Prints (status_of answer.drawn) answer.text.items old new s) (sym c.status_of.ensures) (whole all)

pub returns-in-Err-clause-prints : goal.returns-in-Err-clause-prints
returns-in-Err-clause-prints g c =
    front (subst (TellsFront (g.K.Sink.told c.args.out.now) (g.K.Sink.told c.tell.new.sink)) c.deref.ensures.value c.in-Err.ensures.err)
