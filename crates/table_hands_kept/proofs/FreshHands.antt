-- The hands of a table that was just opened, as they are split off one by one.
use Rattle.std.proofs.Common.{◌≡◌, ℕ, ◌+◌, List, [], ◌∷◌, ◌++◌, length, set, refl, sym, ap, ◌∙◌, subst, ⊎_elim, arith, length-set, length-append}
use Rattle.std.specs.Prelude.{Option}
use mathlib.Core.Option.{some}
use lib.ListN.{get_elem?}
use Rattle.atomic_table.specs.declared.shared.Seat.{Seat}
use Rattle.atomic_table.proofs.Lists.{at_set}
use Rattle.table_rules.specs.declared.view.View.{View}
use Rattle.table_steps.specs.Views.{Board, knows, IsHandOf, fresh_with, fresh_after, split_once, AreFreshHands}
use Rattle.table_steps.specs.Slots.{IsSeated}
use Rattle.table_kept.proofs.Seats.{at_end}

-- a hand that stands for itself and carries nothing is one of its table's
pub seated-none : {P E O : Type 0} (board : Board O) (hand : Seat (Option P) (View P E)) → hand.table_id ≡ board.table_id →
    hand.me.1 ≡ [] → (knows hand).hands ≡ 1 → IsHandOf board hand
seated-none board hand table none itself =
    record {
      table_is = table;
      seated = subst (λ c. IsSeated board.frame.tree board.frame.layout (hand.me.0, c)) (sym none)
          (record { apart = tt; given = tt; itself = itself });
    }

-- a first hand that splits another hand off, and the hands before it
pub record Cut (P E : Type 0) {O : Type 0} (board : Board O) : Type 0 where
  pub hands : ℕ
  pub all : List (Seat (Option P) (View P E))
  pub seat : Seat (Option P) (View P E)
  pub cut : Seat (Option P) (View P E)
  pub next : Seat (Option P) (View P E)
  pub fresh : AreFreshHands board hands all
  pub at : get_elem? all 0 ≡ some seat
  pub cut_table : cut.table_id ≡ seat.table_id
  pub cut_me : cut.me ≡ (split_once seat.me.0, seat.me.1)
  pub next_table : next.table_id ≡ seat.table_id
  pub next_me : next.me ≡ (fresh_after seat.me.0, [])

module _ {P E O : Type 0} (board : Board O) (task : Cut P E board) where
  open task use {hands as n, all, seat, cut, next, fresh as old, at, cut_table, cut_me, next_table, next_me}

  abbrev IsFresh : ℕ → Seat (Option P) (View P E) → Type 0
  IsFresh h hand = IsHandOf board hand × (hand.me.1 ≡ []) × (knows hand ≡ fresh_with h (knows hand).splits)

  counts : (knows seat).splits + 1 ≡ n
  counts = old.splits seat at

  first-fresh : IsFresh 0 seat
  first-fresh = old.each 0 seat at

  cut-fresh : IsFresh 0 cut
  cut-fresh =
      let is : knows cut ≡ split_once (knows seat) = ap (λ m. m.0) cut_me in (
        seated-none board cut (cut_table ∙ first-fresh.0.table_is) (ap (λ m. m.1) cut_me ∙ first-fresh.1)
            (ap (λ v. v.hands) is ∙ first-fresh.0.seated.itself),
        ap (λ m. m.1) cut_me ∙ first-fresh.1,
        is ∙ ap split_once first-fresh.2 ∙ ap (fresh_with 0) (sym (ap (λ v. v.splits) is)),
      )

  next-fresh : IsFresh (length all) next
  next-fresh =
      let is : knows next ≡ fresh_after (knows seat) = ap (λ m. m.0) next_me in (
        seated-none board next (next_table ∙ first-fresh.0.table_is) (ap (λ m. m.1) next_me) (ap (λ v. v.hands) is),
        ap (λ m. m.1) next_me,
        is ∙ (λ k. fresh_with ((counts ∙ sym old.length_is) k) (sym (ap (λ v. v.splits) is) k)),
      )

  cut-counts : (knows cut).splits + 1 ≡ n + 1
  cut-counts =
      let is : (knows cut).splits ≡ (knows seat).splits + 1 = ap (λ m. m.0.splits) cut_me in
      let c = counts in omega (arith, is, c)

  pub one_more : AreFreshHands board (n + 1) (set all 0 cut ++ next ∷ [])
  one_more =
      let more : List (Seat (Option P) (View P E)) = set all 0 cut ++ next ∷ [] in
      let of : (Q : ℕ → Seat (Option P) (View P E) → Type 0) → Q 0 cut → Q (length all) next →
      ((h : ℕ) (hand : Seat (Option P) (View P E)) → (h ≡ 0 → ⊥) → get_elem? all h ≡ some hand → Q h hand) →
      (h : ℕ) (hand : Seat (Option P) (View P E)) → get_elem? more h ≡ some hand → Q h hand =
      λ Q here last others h hand e.
      ⊎_elim
      (λ (l : get_elem? (set all 0 cut) h ≡ some hand).
      ⊎_elim
      (λ (t : (h ≡ 0) × (cut ≡ hand)).
      subst (λ (z : ℕ × Seat (Option P) (View P E)). Q z.0 z.1) (λ i. (sym t.0 i, t.1 i)) here)
      (λ (t : ((h ≡ 0) → ⊥) × (get_elem? all h ≡ some hand)). others h hand t.0 t.1)
      (at_set all 0 h cut hand l))
      (λ (r : (h ≡ length (set all 0 cut)) × (next ≡ hand)).
      subst (λ (z : ℕ × Seat (Option P) (View P E)). Q z.0 z.1)
      (λ i. (sym (r.0 ∙ length-set all 0 cut) i, r.1 i)) last)
      (at_end (set all 0 cut) next hand h e) in
      record {
        length_is =
            let a = length-append (set all 0 cut) (next ∷ []) in
            let b = length-set all 0 cut in
            let c = old.length_is in omega (arith, a, b, c);
        each = of IsFresh cut-fresh next-fresh (λ h hand _ e. old.each h hand e);
        splits = λ hand e.
            of (λ h u. h ≡ 0 → (knows u).splits + 1 ≡ n + 1) (λ _. cut-counts)
            (λ none. let c = counts in let l = old.length_is in absurd (omega (arith, none, c, l)))
            (λ h u other _ none. absurd (other none)) 0 hand e refl;
      }
