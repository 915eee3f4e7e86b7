-- How the numbers of associations move when one view and the scope's word change.
use Rattle.std.proofs.Common.{◌≡◌, ℕ, ◌+◌, ◌<◌, ◌≤◌, true, eqb, ◌∙◌, inl, inr, arith}
use Rattle.std.proofs.lemmas.Bool.{cases_eq, cond-true, cond-false, eq-eqb, ne_eqb}
use Rattle.life_rules.specs.declared.scope.ScopeWord.{ScopeWord}
use Rattle.life_rules.specs.Views.{View}
use Rattle.life_rules.specs.States.{State, with_view, with_scope}
use Rattle.common_lemmas.specs.Sums.{total}
use Rattle.life_rules.specs.Associations.{Associations, kept}
use Rattle.life_rules.proofs.Readings.{total-with_view}
use Rattle.common_lemmas.proofs.Totals.{total-plus}

-- the associations of all views that are kept, and those that are being refused
abbrev pub all_kept : State → ℕ
all_kept s = total (λ i. kept (s.view i)) s.hands

abbrev pub all_refused : State → ℕ
all_refused s = total (λ i. (s.view i).refused) s.hands

-- the count is those that are kept and those that are being refused
pub count-parts : (s : State) → Associations s → s.scope.count ≡ all_kept s + all_refused s
count-parts s a =
    a.count ∙ total-plus (λ i. kept (s.view i)) (λ i. (s.view i).refused) s.hands

-- a change of one view and of the word keeps the part, where the numbers move alike
pub associations-kept : (s : State) (h : ℕ) (v : View) (w : ScopeWord) → Associations s → h < s.hands →
    w.count + (kept (s.view h) + (s.view h).refused) ≡ s.scope.count + (kept v + v.refused) →
    v.making + v.refused ≤ 1 →
    (w.joined ≡ true → all_kept s + kept v ≤ kept (s.view h)) →
    all_kept s + kept v ≤ s.most + kept (s.view h) →
    Associations (with_view (with_scope s w) h v)
associations-kept s h v w a l moves single joined most =
    let each = total-with_view s h v (λ u. kept u + u.refused) l in
    let keeps = total-with_view s h v kept l in
    record {
      count = omega (arith, each, moves, a.count);
      joined = λ e. let none = joined e in omega (arith, keeps, none);
      single = λ i below. elim (cases_eq i h) [
        | inl here ↦
            rw (cond-true (eqb i h) v (s.view i) (eq-eqb i h here)) single
        | inr there ↦ rw (cond-false (eqb i h) v (s.view i) (ne_eqb i h there)) (a.single i below)
      ];
      most = omega (arith, keeps, most);
    }
