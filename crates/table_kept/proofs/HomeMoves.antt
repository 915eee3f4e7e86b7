-- The homes of a table after a slot was taken.
use Rattle.std.proofs.Common.{◌≡◌, ℕ, zero, suc, ◌<◌, true, ◌&&◌, ◌==◌, cond, List, [], ◌∷◌, length, set, refl, sym, ap, ◌∙◌, arith}
use Rattle.std.specs.Prelude.{Option, Some, None}
use Rattle.std.proofs.lemmas.Bool.{and_parts, and_from, cond-true, cond-false, both_ways, eqb-true, eq-eqb, lt-ltb}
use Rattle.std.proofs.lemmas.Nat.{same_from_place}
use mathlib.Core.Option.{some}
use mathlib.Core.Option as maybe
use lib.ListN.{get_elem?}
use Rattle.common_lemmas.proofs.Bool.{either}
use Rattle.atomic_table.proofs.Lists.{set_here, set_else}
use Rattle.table_words.specs.declared.layout.Layout.{Layout}
use Rattle.table_words.specs.Layouts.{place_number, places_in}
use Rattle.table_words.proofs.Spots.{place-within}
use Rattle.table_rules.specs.ShownWords.{is_there}
use Rattle.table_rules.specs.Scenes.{Home, Out, Empty, is_out, is_full, home_in}
use Rattle.life_rules.specs.States.{set_at}
use Rattle.table_kept.proofs.WordMoves.{there-place}

-- a home that is empty is at home
pub empty-home : {P : Type 0} (homes : List (maybe.Option (Option P))) (i : ℕ) → i < length homes →
    home_in (get_elem? homes i) ≡ Empty → get_elem? homes i ≡ some (some None)
empty-home [] i h e = absurd (omega arith)
empty-home (maybe.none ∷ xs) zero h e = absurd (both_ways true (ap is_out e) refl)
empty-home (maybe.some None ∷ xs) zero h e = refl
empty-home (maybe.some (Some item) ∷ xs) zero h e = absurd (both_ways true (ap is_full e) refl)
empty-home (x ∷ xs) (suc i) h e = empty-home xs i (omega arith) e

-- what the home of a place is
abbrev pub home_of_place : {P : Type 0} → Layout → List (maybe.Option (Option P)) → ℕ → ℕ → Home P
home_of_place l homes i m = cond (is_there l i m) (home_in (get_elem? homes (place_number l i m))) Empty

module _ {P : Type 0} (l : Layout) (homes : List (maybe.Option (Option P))) (deep : length homes ≡ places_in l) (b n : ℕ) (hb : b < l.blocks) (hn : n < l.nodes) where
  here : is_there l b n ≡ true
  here = and_from _ _ (lt-ltb b l.blocks hb) (lt-ltb n l.nodes hn)

  -- the slot that was taken is out, the other homes are as before
  pub taken : (i m : ℕ) →
      home_of_place l (set homes (place_number l b n) maybe.none) i m ≡ set_at (home_of_place l homes) b n Out i m
  taken i m =
      either (i == b && m == n)
      (λ t.
      let parts = and_parts (i == b) (m == n) t in
      let new = set homes (place_number l b n) maybe.none in
      let w = place-within l b n hb hn in
      (λ k. home_of_place l new (eqb-true i b parts.0 k) (eqb-true m n parts.1 k))
      ∙ cond-true (is_there l b n) (home_in (get_elem? new (place_number l b n))) Empty here
      ∙ ap home_in (set_here homes (place_number l b n) maybe.none (omega (arith, w, deep)))
      ∙ sym (cond-true (i == b && m == n) Out (home_of_place l homes i m) t))
      (λ f.
      either (is_there l i m)
      (λ there.
      let at = there-place l i m there in
      let differ : place_number l i m ≡ place_number l b n → ⊥ =
      λ e.
      let same = same_from_place i m b n l.nodes at.1 hn e in
      both_ways (i == b && m == n) f (and_from (i == b) (m == n) (eq-eqb i b same.0) (eq-eqb m n same.1)) in
      (λ k. cond (is_there l i m)
      (home_in (set_else homes (place_number l b n) (place_number l i m) maybe.none differ k)) Empty)
      ∙ sym (cond-false (i == b && m == n) Out (home_of_place l homes i m) f))
      (λ gone.
      cond-false (is_there l i m) _ Empty gone ∙ sym (cond-false (is_there l i m) _ Empty gone)
      ∙ sym (cond-false (i == b && m == n) Out (home_of_place l homes i m) f)))
