-- A list of sleepers with one more.
use Rattle.std.proofs.Common.{◌≡◌, ℕ, zero, suc, ◌+◌, ◌⊎◌, List, [], ◌∷◌, ◌++◌, length, inl, inr, ⊎_elim, refl, sym, ap, ◌∙◌, length-append}
use Rattle.std.specs.Prelude.{slice_get, Some, None}
use Rattle.sleepers.specs.declared.sleeper.Sleeper.{Sleeper}
use Rattle.sleepers.specs.Places.{HavePlaces}

got : {X : Type 0} (a b : X) → Some a ≡ Some b → a ≡ b
got a b e = cc

no-more : {X : Type 0} (b : X) → None ≡ Some b → ⊥
no-more b e = cc

last-got : {X : Type 0} (l : List X) (p q : X) (k : ℕ) → slice_get (l ++ p ∷ []) k ≡ Some q →
    ((k ≡ length l) × (p ≡ q)) ⊎ (slice_get l k ≡ Some q)
last-got [] p q zero e = inl (refl, got p q e)
last-got [] p q (suc k) e = absurd (no-more q e)
last-got (x ∷ xs) p q zero e = inr e
last-got (x ∷ xs) p q (suc k) e = ⊎_elim (λ t. inl (ap suc t.0, t.1)) (λ t. inr t) (last-got xs p q k e)

pub one-more : (count : ℕ) (sleepers : List Sleeper) (next : Sleeper) → HavePlaces count sleepers → next.place ≡ count →
    HavePlaces (count + 1) (sleepers ++ next ∷ [])
one-more count sleepers next have is =
    let long : length (sleepers ++ next ∷ []) ≡ length sleepers + length (next ∷ []) = length-append sleepers (next ∷ []) in
    let counts : length sleepers ≡ count = have.count in
    record {
      count = long ∙ ap (λ n. n + 1) counts;
      place = λ k sleeper e. ⊎_elim
          (λ last. sym (ap (λ (s : Sleeper). s.place) last.1) ∙ is ∙ sym counts ∙ sym last.0)
          (λ before. have.place k sleeper before)
          (last-got sleepers next sleeper k e);
    }
