use Rattle.std.proofs.Common.{◌≡◌, ◌≢◌, List, [], ◌∷◌, length, ℕ, refl, sym, subst, ◌∙◌, arith, rules}
use Rattle.exec_status.specs.Sinks.{TellsAll, TellsFront}
use Rattle.exec_status.specs.Noted.Concludes.{quiet, told, failed}
use Rattle.exec_status.proofs.notes.conclude.Goals as goal

-- a list of no length has no element
none_of : (xs : List ℕ) → length xs ≡ 0 → xs ≡ []
none_of [] is = refl
none_of (x ∷ xs) is = absurd (omega arith)

-- and one of another length has one
some_of : (xs : List ℕ) → length xs ≢ 0 → xs ≢ []
some_of [] is none = is refl
some_of (x ∷ xs) is none = cc

pub returns-then-is_empty-clause-concludes : goal.returns-then-is_empty-clause-concludes
returns-then-is_empty-clause-concludes g c = quiet (sym c.note_of-note.ensures ∙ none_of c.note_of-note.result.now (search rules)) refl

pub returns-in-Ok-clause-concludes : goal.returns-in-Ok-clause-concludes
returns-in-Ok-clause-concludes g c =
    let view = g.N.Sink.told in
    told (λ none. some_of c.note_of-note.result.now (search rules) (c.note_of-note.ensures ∙ none)) (subst (TellsAll (view c.args.notes.now) (view c.tell.new.sink)) c.note_of-note.ensures c.in-Ok.ensures.ok)

pub returns-in-Err-clause-concludes : goal.returns-in-Err-clause-concludes
returns-in-Err-clause-concludes g c =
    let view = g.N.Sink.told in
    failed (λ none. some_of c.note_of-note.result.now (search rules) (c.note_of-note.ensures ∙ none)) (subst (TellsFront (view c.args.notes.now) (view c.tell.new.sink)) c.note_of-note.ensures c.in-Err.ensures.err)
