use Rattle.std.proofs.Common.{ℕ, List, refl, subst}
use Rattle.exec_io.specs.Outside.{outside}
use Rattle.exec_status.specs.declared.status.Status.TheVariants.{AllValues}
use Rattle.trace_commands.specs.Answers.{Prints, the_replay}
use Rattle.trace_commands.proofs.Due.{replay-decided}
use Rattle.trace_commands.proofs.Ending.{answered, missed}
use Rattle.trace_commands.proofs.replaying.replay_file.Goals as goal

pub returns-in-Ok : goal.returns-in-Ok
returns-in-Ok g c = λ records.
    let out = g.K.Sink.told in
    let prints = subst (λ (text : List ℕ). Prints AllValues text (out c.args.out.now) (out c.print_text.new.out) c.print_text.result) c.deref.ensures.value c.print_text.ensures.prints in
    answered the_replay c.args.name.now
    (outside (g.F.Shelf.told c.args.shelf.now) records (out c.args.out.now) (g.N.Sink.told c.args.notes.now))
    (outside (g.F.Shelf.told c.play.new.shelf) records (out c.print_text.new.out) (g.N.Sink.told c.conclude.new.notes))
    AllValues c.print_text.result c.conclude.result replay-decided tt
    c.in-Ok.ensures.answer c.in-Ok.ensures.reads refl prints c.conclude.ensures.concludes
    c.print_text.ensures.later c.conclude.ensures.later

pub returns-in-Err : goal.returns-in-Err
returns-in-Err g c = λ records.
    missed the_replay c.args.name.now
    (outside (g.F.Shelf.told c.args.shelf.now) records (g.K.Sink.told c.args.out.now) (g.N.Sink.told c.args.notes.now))
    (outside (g.F.Shelf.told c.play.new.shelf) records (g.K.Sink.told c.args.out.now) (g.N.Sink.told c.give_up.new.notes))
    c.in-Err.fault c.give_up.result replay-decided c.in-Err.ensures.fault c.give_up.ensures.gives_up
    c.in-Err.ensures.reads refl refl c.give_up.ensures.later
