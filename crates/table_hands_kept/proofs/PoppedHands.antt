-- The hands of a table that was just opened, taken from the list of them.
use Rattle.std.proofs.Common.{◌≡◌, ℕ, suc, List, [], ◌∷◌, ◌++◌, length, refl, sym, ap, ◌∙◌, subst, arith, length-append}
use Rattle.std.specs.Prelude.{Option}
use mathlib.Core.Option.{some}
use lib.ListN.{get_elem?}
use Rattle.atomic_table.specs.declared.shared.Seat.{Seat}
use Rattle.atomic_table.proofs.Lists.{at_last, at_longer}
use Rattle.table_rules.specs.declared.view.View.{View}
use Rattle.table_rules.specs.Named.{Each}
use Rattle.table_steps.specs.Views.{Board, knows, IsHandOf, fresh_with, AreFreshHands}
use Rattle.table_steps.specs.Remembers.{OwesAndRunsNone}
use Rattle.table_steps.specs.Closings.{HasNothing, AreAllBack}

module _ {P E O : Type 0} (board : Board O) (n : ℕ) (all : List (Seat (Option P) (View P E))) (fresh : AreFreshHands board n all) where
  pub hand-last : (l : List (Seat (Option P) (View P E))) (hand : Seat (Option P) (View P E)) → all ≡ l ++ hand ∷ [] →
      IsHandOf board hand
  hand-last l hand is =
      (fresh.each (length l) hand
      (subst (λ z. get_elem? z (length l) ≡ some hand) (sym is) (at_last l hand (length l) refl))).0

  pub hand-before : (l m : List (Seat (Option P) (View P E))) (hand : Seat (Option P) (View P E)) →
      all ≡ (l ++ hand ∷ []) ++ m → IsHandOf board hand
  hand-before l m hand is =
      (fresh.each (length l) hand
      (subst (λ z. get_elem? z (length l) ≡ some hand) (sym is)
      (at_longer (l ++ hand ∷ []) m (length l) hand (at_last l hand (length l) refl)))).0

  -- the first of two has done nothing
  pub first-fresh : (l : List (Seat (Option P) (View P E))) (hand second : Seat (Option P) (View P E)) →
      all ≡ (l ++ hand ∷ []) ++ second ∷ [] → n ≡ 2 → IsHandOf board hand × (knows hand ≡ fresh_with 0 (knows hand).splits)
  first-fresh l hand second is two =
      let own = fresh.each (length l) hand
      (subst (λ z. get_elem? z (length l) ≡ some hand) (sym is)
      (at_longer (l ++ hand ∷ []) (second ∷ []) (length l) hand (at_last l hand (length l) refl))) in
      let inner = length-append l (hand ∷ []) in
      let outer = length-append (l ++ hand ∷ []) (second ∷ []) in
      let same = ap length is in
      let long = fresh.length_is in
      let none : length l ≡ 0 = omega (arith, inner, outer, same, long, two) in (
        own.0,
        own.2 ∙ ap (λ k. fresh_with k (knows hand).splits) none,
      )

each-at : {A : Type 0} (Q : A → Type 0) (l : List A) → ((i : ℕ) (a : A) → get_elem? l i ≡ some a → Q a) → Each Q l
each-at Q [] all = tt
each-at Q (a ∷ rest) all = (all 0 a refl, each-at Q rest (λ i b e. all (suc i) b e))

nothing-yet : {P E : Type 0} (number splits : ℕ) → HasNothing (fresh_with {P = P} {E = E} number splits)
nothing-yet number splits =
    record {
      held = refl;
      owed = refl;
      reported = refl;
      finished = refl;
      runs = refl;
      scans = refl;
      made = refl;
      making = refl;
      refused = refl;
    }

-- the hands of a table that was just opened have nothing
pub all-back : {P E O : Type 0} (board : Board O) (n : ℕ) (all : List (Seat (Option P) (View P E))) →
    board.frame.hands ≡ n → AreFreshHands board n all → AreAllBack board all
all-back {P} {E} board n all hands fresh =
    record {
      length_is = fresh.length_is ∙ sym hands;
      each = each-at (λ hand. IsHandOf board hand × HasNothing (knows hand)) all
          (λ h hand e.
          let is = fresh.each h hand e in (
            is.0,
            subst HasNothing (sym is.2) (nothing-yet h (knows hand).splits),
          ));
    }

-- and owe no start and run no callback
pub have-none : {P E O : Type 0} (board : Board O) (n : ℕ) (all : List (Seat (Option P) (View P E))) → AreFreshHands board n all →
    Each (OwesAndRunsNone board) all
have-none board n all fresh =
    each-at (OwesAndRunsNone board) all
    (λ h hand e.
    let is = fresh.each h hand e in
    record { table_is = is.0.table_is; owed = ap (λ v. v.owed) is.2; runs = ap (λ v. v.runs) is.2 })
