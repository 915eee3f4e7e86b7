use Rattle.std.proofs.Common.{sym, subst}
use Rattle.exec_io.specs.Outside.{outside}
use Rattle.exec_io.specs.Views.{SourceView}
use Rattle.trace_commands.specs.Ends.{Ends}
use Rattle.show_words.specs.declared.asked.Asked.{Asked}
use Rattle.picture_commands.specs.Shows.{file_of, question_of}
use Rattle.picture_commands.proofs.showing.show_file.Goals as goal

pub returns-in-Plan : goal.returns-in-Plan
returns-in-Plan g c =
    let P : Asked → Type 0 = λ asked. (records : SourceView) → Ends (question_of asked) (file_of asked)
    (outside (g.F.Shelf.told c.args.shelf.now) records (g.K.Sink.told c.args.out.now) (g.N.Sink.told c.args.notes.now))
    (outside (g.F.Shelf.told c.show_plan.new.shelf) records (g.K.Sink.told c.show_plan.new.out) (g.N.Sink.told c.show_plan.new.notes)) c.show_plan.result in
    subst P (sym c.in-Plan.is) c.show_plan.ensures

pub returns-in-Trace : goal.returns-in-Trace
returns-in-Trace g c =
    let P : Asked → Type 0 = λ asked. (records : SourceView) → Ends (question_of asked) (file_of asked)
    (outside (g.F.Shelf.told c.args.shelf.now) records (g.K.Sink.told c.args.out.now) (g.N.Sink.told c.args.notes.now))
    (outside (g.F.Shelf.told c.show_trace.new.shelf) records (g.K.Sink.told c.show_trace.new.out) (g.N.Sink.told c.show_trace.new.notes)) c.show_trace.result in
    subst P (sym c.in-Trace.is) c.show_trace.ensures

pub returns-in-Why : goal.returns-in-Why
returns-in-Why g c =
    let P : Asked → Type 0 = λ asked. (records : SourceView) → Ends (question_of asked) (file_of asked)
    (outside (g.F.Shelf.told c.args.shelf.now) records (g.K.Sink.told c.args.out.now) (g.N.Sink.told c.args.notes.now))
    (outside (g.F.Shelf.told c.show_why.new.shelf) records (g.K.Sink.told c.show_why.new.out) (g.N.Sink.told c.show_why.new.notes)) c.show_why.result in
    subst P (sym c.in-Why.is) c.show_why.ensures

pub returns-in-Write : goal.returns-in-Write
returns-in-Write g c =
    let P : Asked → Type 0 = λ asked. (records : SourceView) → Ends (question_of asked) (file_of asked)
    (outside (g.F.Shelf.told c.args.shelf.now) records (g.K.Sink.told c.args.out.now) (g.N.Sink.told c.args.notes.now))
    (outside (g.F.Shelf.told c.show_write.new.shelf) records (g.K.Sink.told c.show_write.new.out) (g.N.Sink.told c.show_write.new.notes)) c.show_write.result in
    subst P (sym c.in-Write.is) c.show_write.ensures

pub returns-in-Text : goal.returns-in-Text
returns-in-Text g c =
    let P : Asked → Type 0 = λ asked. (records : SourceView) → Ends (question_of asked) (file_of asked)
    (outside (g.F.Shelf.told c.args.shelf.now) records (g.K.Sink.told c.args.out.now) (g.N.Sink.told c.args.notes.now))
    (outside (g.F.Shelf.told c.show_text.new.shelf) records (g.K.Sink.told c.show_text.new.out) (g.N.Sink.told c.show_text.new.notes)) c.show_text.result in
    subst P (sym c.in-Text.is) c.show_text.ensures
