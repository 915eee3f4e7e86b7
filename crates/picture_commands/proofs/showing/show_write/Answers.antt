use Rattle.std.proofs.Common.{refl}
use Rattle.exec_io.specs.Outside.{outside}
use Rattle.trace_commands.proofs.Ending.{answered, missed}
use Rattle.picture_commands.specs.Answers.{status_of, the_write}
use Rattle.picture_commands.proofs.Decided.{write-decided, is_answer}
use Rattle.picture_commands.proofs.showing.show_write.Goals as goal

pub returns-in-Ok : goal.returns-in-Ok
returns-in-Ok g c = λ records.
    answered the_write c.args.name.now
    (outside (g.F.Shelf.told c.args.shelf.now) records (g.K.Sink.told c.args.out.now) (g.N.Sink.told c.args.notes.now))
    (outside (g.F.Shelf.told c.write_answer.new.shelf) records (g.K.Sink.told c.print_answer.new.out) (g.N.Sink.told c.conclude.new.notes))
    (status_of c.in-Ok.answer.drawn) c.print_answer.result c.conclude.result write-decided (is_answer c.in-Ok.answer.drawn)
    c.in-Ok.ensures.answer c.in-Ok.ensures.reads refl c.print_answer.ensures.prints c.conclude.ensures.concludes
    c.print_answer.ensures.later c.conclude.ensures.later

pub returns-in-Err : goal.returns-in-Err
returns-in-Err g c = λ records.
    missed the_write c.args.name.now
    (outside (g.F.Shelf.told c.args.shelf.now) records (g.K.Sink.told c.args.out.now) (g.N.Sink.told c.args.notes.now))
    (outside (g.F.Shelf.told c.write_answer.new.shelf) records (g.K.Sink.told c.args.out.now) (g.N.Sink.told c.give_up.new.notes))
    c.in-Err.fault c.give_up.result write-decided c.in-Err.ensures.fault c.give_up.ensures.gives_up
    c.in-Err.ensures.reads refl refl c.give_up.ensures.later
