use Rattle.std.proofs.Common.{◌≡◌, List, ℕ, Option, None, IfSome, sym, ◌∙◌, subst}
use Rattle.exec_io.specs.Outside.{Outside, outside}
use Rattle.exec_io.specs.Views.{SourceView}
use Rattle.exec_status.specs.declared.status.Status.{Status}
use Rattle.exec_status.specs.declared.status.Status.TheVariants.{Usage}
use Rattle.trace_commands.specs.Answers.{Question}
use Rattle.trace_commands.specs.Ends.{Ends}
use Rattle.trace_commands.specs.Says.{Says}
use Rattle.show_words.specs.declared.asked.Asked.{Asked}
use Rattle.picture_commands.specs.Shows.{ShowEnds, question_of, file_of}
use Rattle.picture_commands.proofs.showing.show.Goals as goal

-- a command on a file doesn't end as a fault of usage
not_usage : (question : Question) (name : List ℕ) (old new : Outside) (result : Status) → Ends question name old new result → result ≡ Usage → ⊥
not_usage question name old new result ends e =
    let P : Status → Type 0 = λ s. Says question name old new s in
    subst P e ends.says

-- no record
none_read : SourceView
none_read = record { left = None; faults = 0 }

pub returns-in-Some-clause-usage : goal.returns-in-Some-clause-usage
returns-in-Some-clause-usage g c =
    let asked = sym c.read_words.ensures ∙ c.in-Some.is in (
      λ e. absurd (not_usage (question_of c.in-Some.asked) (file_of c.in-Some.asked)
          (outside (g.F.Shelf.told c.args.shelf.now) none_read (g.K.Sink.told c.args.out.now) (g.N.Sink.told c.args.notes.now))
          (outside (g.F.Shelf.told c.show_asked.new.shelf) none_read (g.K.Sink.told c.show_asked.new.out) c.show_asked.ensures.ended)
          c.show_asked.result (c.show_asked.ensures.ends none_read) e),
      λ none. cc,
    )

pub returns-in-Some-clause-ends : goal.returns-in-Some-clause-ends
returns-in-Some-clause-ends g c =
    let asked = sym c.read_words.ensures ∙ c.in-Some.is in
    let P : Option Asked → Type 0 = λ o. IfSome o (ShowEnds
    (g.F.Shelf.told c.args.shelf.now) (g.F.Shelf.told c.show_asked.new.shelf)
    (g.K.Sink.told c.args.out.now) (g.K.Sink.told c.show_asked.new.out)
    (g.N.Sink.told c.args.notes.now) (g.N.Sink.told c.show_asked.new.notes) c.show_asked.result) in
    subst P (sym asked) c.show_asked.ensures
