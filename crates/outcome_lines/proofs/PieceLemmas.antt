-- What is gathered in a piece, and written from there.
use Rattle.std.proofs.Common.{◌≡◌, ℕ, ◌+◌, ◌-◌, ◌≤◌, List, [], ◌++◌, take, drop, Result, Ok, ap, ◌∙◌, sym, subst, arith}
use Rattle.std.specs.List.{flat_map}
use Rattle.std.proofs.lemmas.Grind.{flat_map-append}
use Rattle.std.proofs.Math.Seq.{take-add}
use Rattle.exec_io.specs.declared.fault.Failed.{Failed}
use Rattle.exec_io.specs.Views.{SinkView}
use Rattle.exec_io.specs.Writing.{Puts}
use Rattle.exec_io.proofs.PutsLemmas.{Puts-then}
use Rattle.outcome_lines.specs.Pieces.{PieceState, piece_view}

-- what was put into an empty piece is what it has
pub gathered : {old new : PieceState} {bytes : List ℕ} → old.bytes ≡ [] → Puts (piece_view old) (piece_view new) (Ok tt) bytes → new.bytes ≡ bytes
gathered {bytes = bytes} empty put = put.ok.grown ∙ ap (λ (l : List ℕ). l ++ bytes) empty

-- and what is written from there
pub Puts-gathered : {s t : SinkView} {r : Result (Unit {0}) Failed} {old new : PieceState} {bytes written : List ℕ} → old.bytes ≡ [] → Puts (piece_view old) (piece_view new) (Ok tt) bytes → written ≡ new.bytes → Puts s t r written → Puts s t r bytes
Puts-gathered {s = s} {t = t} {r = r} empty put is wrote = subst (Puts s t r) (is ∙ gathered empty put) wrote

-- the items up to a place, and then those up to a later one
pub Puts-part : {X : Type 0} {s t u : SinkView} {r : Result (Unit {0}) Failed} (f : X → List ℕ) (xs : List X) (done end : ℕ) → done ≤ end → Puts s t (Ok tt) (flat_map f (take done xs)) → Puts t u r (flat_map f (take (end - done) (drop done xs))) → Puts s u r (flat_map f (take end xs))
Puts-part {s = s} {u = u} {r = r} f xs done end behind before part =
    let whole : done + (end - done) ≡ end = omega arith in
    let joined : flat_map f (take done xs) ++ flat_map f (take (end - done) (drop done xs)) ≡ flat_map f (take end xs) =
    sym (flat_map-append f (take done xs) (take (end - done) (drop done xs)))
    ∙ ap (flat_map f) (sym (take-add done (end - done) xs))
    ∙ ap (λ (n : ℕ). flat_map f (take n xs)) whole in
    subst (Puts s u r) joined (Puts-then before part)
