-- Lists of names from which one was taken, or to which one came.
use Rattle.std.proofs.Common.{◌≡◌, inl, inr, true, false, ◌||◌, List, [], ◌∷◌, sym, ap, ◌∙◌, subst}
use Rattle.std.proofs.lemmas.Bool.{or_cases, or_left, or_right, cond-true, cond-false}
use Rattle.life_rules.specs.declared.event.Name.{Name}
use Rattle.life_rules.specs.Views.{same}
use Rattle.common_lemmas.proofs.Bool.{either}
use Rattle.life_rules.proofs.Names.{same-true}
use Rattle.table_rules.specs.Named.{Each}
use Rattle.table_rules.specs.ShownViews.{has_name}
use Rattle.table_steps.specs.Sights.{but_for}

module _ (x : Name) where
  but-is : (y : Name) (ys : List Name) → same y x ≡ true → but_for x (y ∷ ys) ≡ but_for x ys
  but-is y ys t = cond-true (same y x) (but_for x ys) (y ∷ but_for x ys) t

  but-not : (y : Name) (ys : List Name) → same y x ≡ false → but_for x (y ∷ ys) ≡ y ∷ but_for x ys
  but-not y ys f = cond-false (same y x) (but_for x ys) (y ∷ but_for x ys) f

  -- what the shorter list has the longer had
  pub but-had : (z : Name) (l : List Name) → has_name (but_for x l) z ≡ true → has_name l z ≡ true
  but-had z [] h = h
  but-had z (y ∷ ys) h =
      either (same y x)
      (λ t. or_right (same y z) (has_name ys z) (but-had z ys (ap (λ l. has_name l z) (sym (but-is y ys t)) ∙ h)))
      (λ f.
      elim (or_cases (same y z) (has_name (but_for x ys) z) (ap (λ l. has_name l z) (sym (but-not y ys f)) ∙ h)) [
        | inl here ↦ or_left (same y z) (has_name ys z) here
        | inr more ↦ or_right (same y z) (has_name ys z) (but-had z ys more)
      ])

  -- and it has all other names
  pub but-has : (z : Name) (l : List Name) → (z ≡ x → ⊥) → has_name l z ≡ true → has_name (but_for x l) z ≡ true
  but-has z [] ne h = h
  but-has z (y ∷ ys) ne h =
      either (same y x)
      (λ t.
      let rest : has_name (but_for x ys) z ≡ true =
      elim (or_cases (same y z) (has_name ys z) h) [
        | inl here ↦ absurd (ne (sym (same-true y z here) ∙ same-true y x t))
        | inr more ↦ but-has z ys ne more
      ] in
      ap (λ l. has_name l z) (but-is y ys t) ∙ rest)
      (λ f.
      let rest : (same y z || has_name (but_for x ys) z) ≡ true =
      elim (or_cases (same y z) (has_name ys z) h) [
        | inl here ↦ or_left (same y z) (has_name (but_for x ys) z) here
        | inr more ↦ or_right (same y z) (has_name (but_for x ys) z) (but-has z ys ne more)
      ] in
      ap (λ l. has_name l z) (but-not y ys f) ∙ rest)

  pub each-but : (Q : Name → Type 0) (l : List Name) → Each Q l → Each Q (but_for x l)
  each-but Q [] all = tt
  each-but Q (y ∷ ys) all =
      either (same y x)
      (λ t. subst (Each Q) (sym (but-is y ys t)) (each-but Q ys all.1))
      (λ f. subst (Each Q) (sym (but-not y ys f)) (all.0, each-but Q ys all.1))
