-- A hand changes what it noted of one node that it holds.
use Rattle.std.proofs.Common.{◌≡◌, ◌≤◌, true, List, [], ◌∷◌, sym, ap, subst, arith}
use Rattle.std.proofs.lemmas.Bool.{both_ways, cond-true, cond-false}
use Rattle.life_rules.specs.declared.event.Name.{Name}
use Rattle.common_lemmas.specs.Sums.{one}
use Rattle.life_rules.specs.Views.{same}
use Rattle.common_lemmas.proofs.Bool.{either}
use Rattle.life_rules.proofs.Names.{same-refl, same-true}
use Rattle.table_rules.specs.Named.{count_by, Each}
use Rattle.table_steps.specs.Readings.{at_entry}
use Rattle.table_kept.proofs.Entries.{each-by}

module _ {A : Type 0} (name : A → Name) (change : A → A) (x : Name) (Q R : A → Type 0) (here : (e : A) → name e ≡ x → Q e → R (change e)) (there : (e : A) → (name e ≡ x → ⊥) → Q e → R e) where
  -- what holds of each entry gives this of each, where the only entry of x is changed
  pub each-changed : (l : List A) → count_by name l x ≤ 1 → Each Q l → Each R (at_entry name change x l)
  each-changed [] few all = tt
  each-changed (e ∷ es) few all =
      either (same (name e) x)
      (λ t.
      let o : one (same (name e) x) ≡ 1 = ap one t in
      subst (Each R) (sym (cond-true (same (name e) x) (change e ∷ es) (e ∷ at_entry name change x es) t)) (
        here e (same-true (name e) x t) all.0,
        each-by name Q R (count_by name es)
            (λ d counts q. there d (λ is. absurd
            (let c : 1 ≤ count_by name es x = subst (λ y. 1 ≤ count_by name es y) is counts in omega (arith, c, few, o))) q)
            es (λ y. omega arith) all.1,
      ))
      (λ f.
      subst (Each R) (sym (cond-false (same (name e) x) (change e ∷ es) (e ∷ at_entry name change x es) f)) (
        there e (λ is. both_ways (same (name e) x) f (subst (λ y. same (name e) y ≡ true) is (same-refl (name e)))) all.0,
        each-changed es (omega (arith, few)) all.1,
      ))
