use Rattle.std.proofs.Common.{refl}
use Rattle.exec_io.specs.Outside.{outside}
use Rattle.replay_core.specs.declared.check.Verdict.{Verdict}
use Rattle.replay_core.specs.declared.check.Verdict.TheVariants.{Taken, Refused}
use Rattle.trace_commands.specs.Answers.{verdict_status, the_check}
use Rattle.trace_commands.proofs.Due.{check-decided}
use Rattle.trace_commands.proofs.Ending.{IsAnswer, answered, missed}
use Rattle.trace_commands.proofs.checking.check_file.Goals as goal

verdict-answer : (v : Verdict) → IsAnswer (verdict_status v)
verdict-answer (Taken n) = tt
verdict-answer (Refused e) = tt

pub returns-in-Ok : goal.returns-in-Ok
returns-in-Ok g c = λ records.
    let verdict = c.in-Ok.verdict in
    answered the_check c.args.name.now
    (outside (g.F.Shelf.told c.args.shelf.now) records (g.K.Sink.told c.args.out.now) (g.N.Sink.told c.args.notes.now))
    (outside (g.F.Shelf.told c.judge.new.shelf) records (g.K.Sink.told c.print_verdict.new.out) (g.N.Sink.told c.conclude.new.notes))
    (verdict_status verdict) c.print_verdict.result c.conclude.result check-decided (verdict-answer verdict)
    c.in-Ok.ensures.answer c.in-Ok.ensures.reads refl c.print_verdict.ensures.prints c.conclude.ensures.concludes
    c.print_verdict.ensures.later c.conclude.ensures.later

pub returns-in-Err : goal.returns-in-Err
returns-in-Err g c = λ records.
    missed the_check c.args.name.now
    (outside (g.F.Shelf.told c.args.shelf.now) records (g.K.Sink.told c.args.out.now) (g.N.Sink.told c.args.notes.now))
    (outside (g.F.Shelf.told c.judge.new.shelf) records (g.K.Sink.told c.args.out.now) (g.N.Sink.told c.give_up.new.notes))
    c.in-Err.fault c.give_up.result check-decided c.in-Err.ensures.fault c.give_up.ensures.gives_up
    c.in-Err.ensures.reads refl refl c.give_up.ensures.later
