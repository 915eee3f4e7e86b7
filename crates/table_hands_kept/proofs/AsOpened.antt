-- While no hand has made a step, the table is as it was opened.
use Rattle.std.proofs.Common.{◌≡◌, ℕ, zero, suc, ◌≤◌, List, [], ◌∷◌, map, length, refl, sym, ap, ◌∙◌, subst, ⊎_elim, arith}
use Rattle.std.specs.Prelude.{Option, slice_index, nat_lt}
use Rattle.std.proofs.lemmas.Bool.{ltb-true, ltb-false}
use mathlib.Core.Option.{some, some-injective, some-ne-none}
use lib.ListN.{get_elem?}
use Rattle.life_rules.specs.declared.words.ControlWord.TheVariants.{Idle}
use Rattle.life_rules.specs.declared.words.CallbackPhase.TheVariants.{Never}
use Rattle.life_rules.specs.Words.{clear}
use Rattle.common_lemmas.proofs.Bool.{either}
use Rattle.table_words.specs.Controls.{control_read, callback_read, source_read}
use Rattle.table_words.specs.ScopeNumbers.{scope_read}
use Rattle.table_words.specs.Layouts.{OfControl, OfCallback, OfSource}
use Rattle.atomic_table.specs.declared.shared.Seat.{Seat}
use Rattle.atomic_table.specs.Table as table
use Rattle.listed_words.specs.declared.seen.Seen.{Seen}
use Rattle.table_rules.specs.declared.cargo.Cargo.{Ghosts}
use Rattle.table_rules.specs.declared.view.View.{View}
use Rattle.table_rules.specs.Named.{AnyOf}
use Rattle.table_rules.specs.Scenes.{Empty, home_in}
use Rattle.table_rules.specs.Traces.{LeavesThere, all_steps, SomeHas, SomeCarries, Traced}
use Rattle.table_steps.specs.Views.{Board, knows, fresh_with, AreFreshHands}
use Rattle.table_steps.specs.Openings.{StaysAsOpened}
use Rattle.table_hands_kept.proofs.Opening.{block-first, said-first}

-- an item of a mapped list comes from one of the list
mapped-at : {A B : Type 0} (f : A → B) (l : List A) (i : ℕ) (b : B) → get_elem? (map f l) i ≡ some b →
    (a : A) × (get_elem? l i ≡ some a) × (f a ≡ b)
mapped-at f [] i b e = absurd (some-ne-none b (sym e))
mapped-at f (x ∷ xs) zero b e = (x, refl, some-injective (f x) b e)
mapped-at f (x ∷ xs) (suc i) b e = mapped-at f xs i b e

-- no number stands behind a list's end
beyond : (l : List ℕ) (i : ℕ) → length l ≤ i → slice_index l i ≡ 0
beyond [] i most = refl
beyond (x ∷ xs) zero most = absurd (omega (arith, most))
beyond (x ∷ xs) (suc i) most = beyond xs i (omega (arith, most))

-- the table's state where all its hands are fresh
record Unstepped {P E O : Type 0} (cargo : Ghosts P E O) (board : Board O) : Type 0 where
  pub count : ℕ
  pub all : List (Seat (Option P) (View P E))
  pub fresh : AreFreshHands board count all
  pub state : table.State (Option P) (View P E)
  pub traced : Traced cargo board.frame state
  pub views : state.views ≡ map knows all

module _ {P E O : Type 0} (cargo : Ghosts P E O) (board : Board O) (unstepped : Unstepped cargo board) where
  open unstepped use {all, fresh, state as s, traced, views}

  -- each view is of a hand that has done nothing
  view-fresh : (h : ℕ) (v : View P E) → get_elem? s.views h ≡ some v → v ≡ fresh_with h v.splits
  view-fresh h v at =
      let of = mapped-at knows all h v (subst (λ l. get_elem? l h ≡ some v) views at) in
      sym of.2 ∙ (fresh.each h of.0 of.1).2 ∙ ap (λ (z : View P E). fresh_with h z.splits) of.2

  none-has : (Q : Seen → Type 0) → SomeHas s.views Q → ⊥
  none-has Q h = subst (λ (z : View P E). AnyOf Q z.steps) (view-fresh h.hand h.view h.at) h.has

  none-carries : (Q : Seen → Type 0) → SomeCarries s.views Q → ⊥
  none-carries Q h = subst (λ (z : View P E). AnyOf Q (all_steps z)) (view-fresh h.hand h.view h.at) h.has

  dull : (i : ℕ) → slice_index s.words i ≡ 0
  dull i =
      either (nat_lt i (length s.words))
      (λ t.
      ⊎_elim (λ (z : slice_index s.words i ≡ 0). z)
      (λ (h : SomeCarries s.views (LeavesThere i (slice_index s.words i))). absurd (none-carries (LeavesThere i (slice_index s.words i)) h))
      (traced.words i (ltb-true i (length s.words) t)))
      (λ no. beyond s.words i (ltb-false i (length s.words) no))

  home-empty : (i : ℕ) → home_in (get_elem? s.homes i) ≡ Empty
  home-empty i =
      ⊎_elim (λ (z : home_in (get_elem? s.homes i) ≡ Empty). z)
      (λ (h : SomeHas s.views (λ _. Unit {0})). absurd (none-has (λ _. Unit {0}) h)) (traced.homes i)

-- what is said of a table that was just opened
pub stays-as-opened : {P E O : Type 0} (cargo : Ghosts P E O) (board : Board O) (n : ℕ) (all : List (Seat (Option P) (View P E))) →
    AreFreshHands board n all → StaysAsOpened cargo board.frame all
stays-as-opened cargo board n all fresh s traced views =
    let unstepped : Unstepped cargo board =
    record { count = n; all = all; fresh = fresh; state = s; traced = traced; views = views } in
    let zero_at = dull cargo board unstepped in
    let l = board.frame.layout in
    record {
      block = block-first l s.words zero_at;
      control = said-first l s.words zero_at Idle control_read OfControl refl;
      callback = said-first l s.words zero_at Never callback_read OfCallback refl;
      source = said-first l s.words zero_at clear source_read OfSource refl;
      scope_source = ap source_read (zero_at 16);
      scope = ap scope_read (zero_at 0);
      home = home-empty cargo board unstepped;
    }
