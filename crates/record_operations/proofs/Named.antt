-- Entries of a list that have other names than one that comes or goes.
use Rattle.std.proofs.Common.{◌≡◌, List, [], ◌∷◌, cond, refl, sym, ap, ◌∙◌}
use Rattle.std.specs.Prelude.{Option, Some}
use Rattle.std.proofs.lemmas.Bool.{cond-true, cond-false}
use Rattle.common_lemmas.proofs.Bool.{either}
use Rattle.life_rules.specs.declared.event.Name.{Name}
use Rattle.life_rules.specs.Views.{same}
use Rattle.life_rules.proofs.Names.{same-refl, same-true, same-other}
use Rattle.table_rules.specs.Named.{find_by, without}

module _ {A : Type 0} (name : A → Name) where
  -- the new entry is found under its name
  pub first-found : (e : A) (l : List A) → find_by name (e ∷ l) (name e) ≡ Some e
  first-found e l = cond-true (same (name e) (name e)) (Some e) (find_by name l (name e)) (same-refl (name e))

  -- and the others under theirs
  pub others-found : (e : A) (l : List A) (y : Name) → (name e ≡ y → ⊥) → find_by name (e ∷ l) y ≡ find_by name l y
  others-found e l y apart = cond-false (same (name e) y) (Some e) (find_by name l y) (same-other (name e) y apart)

  -- as where one goes
  pub others-stay : (l : List A) (x y : Name) → (x ≡ y → ⊥) → find_by name (without name l x) y ≡ find_by name l y
  others-stay [] x y apart = refl
  others-stay (e ∷ l) x y apart =
      either (same (name e) x)
      (λ here.
      ap (λ (k : List A). find_by name k y) (cond-true (same (name e) x) l (e ∷ without name l x) here)
      ∙ sym (others-found e l y (λ at. apart (sym (same-true (name e) x here) ∙ at))))
      (λ there.
      ap (λ (k : List A). find_by name k y) (cond-false (same (name e) x) l (e ∷ without name l x) there)
      ∙ ap (λ (o : Option A). cond (same (name e) y) (Some e) o) (others-stay l x y apart))
