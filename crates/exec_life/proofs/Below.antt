-- Searches that go on by one.
use Rattle.std.proofs.Common.{◌≡◌, ℕ, zero, suc, ◌+◌, ◌<◌, ◌≤◌, Bool, true, false, not, refl, sym, ap, ◌∙◌, inl, inr, subst, arith, add-one}
use Rattle.std.proofs.lemmas.Bool.{cases_eq, or_left, or_right, or_from, and_parts, and_from, not_from_false, false_from_ne_true, both_ways}
use Rattle.life_rules.specs.declared.event.SourceRef.{SourceRef}
use Rattle.life_rules.specs.Scans.{has_none, is_nearest, place_at}
use Rattle.life_rules.specs.States.{State}
use Rattle.life_rules.specs.StopSteps.{some_below}
use Rattle.life_rules.proofs.ScanOrder.{has_none-at}

pub some_below-found : (test : ℕ → Bool) (n k : ℕ) → k < n → test k ≡ true → some_below test n ≡ true
some_below-found test zero k l h = absurd (omega (arith, l))
some_below-found test (suc n) k l h =
    elim (cases_eq k n) [
      | inl at ↦ or_right (some_below test n) (test n) (ap test (sym at) ∙ h)
      | inr apart ↦ or_left (some_below test n) (test n) (some_below-found test n k (omega (arith, apart)) h)
    ]

pub some_below-more : (test : ℕ → Bool) (n : ℕ) → some_below test n ≡ false → test n ≡ false →
    some_below test (n + 1) ≡ false
some_below-more test n before here = rw add-one (or_from (some_below test n) (test n) before here)

-- a scan that passes one number more
pub has_none-push : (s : State) (source : SourceRef) (i count : ℕ) → has_none s source i count ≡ true →
    is_nearest s source (place_at s (i + count)) ≡ false → has_none s source i (count + 1) ≡ true
unfolding has_none
has_none-push s source i zero h here =
    let at : is_nearest s source (place_at s i) ≡ false =
    let e : i ≡ i + 0 = omega arith in ap (λ j. is_nearest s source (place_at s j)) e ∙ here in
    let one : has_none s source i (suc zero) ≡ true =
    and_from (not (is_nearest s source (place_at s i))) true (not_from_false _ at) refl in
    let e : 1 ≡ 0 + 1 = omega arith in
    subst (λ k. has_none s source i k ≡ true) e one
has_none-push s source i (suc count) h here =
    let parts = and_parts (not (is_nearest s source (place_at s i))) (has_none s source (suc i) count) h in
    let later : is_nearest s source (place_at s (suc i + count)) ≡ false =
    let e : suc i + count ≡ i + suc count = omega arith in ap (λ j. is_nearest s source (place_at s j)) e ∙ here in
    let more : has_none s source (suc i) (count + 1) ≡ true =
    has_none-push s source (suc i) count parts.1 later in
    let all : has_none s source i (suc (count + 1)) ≡ true =
    and_from (not (is_nearest s source (place_at s i))) (has_none s source (suc i) (count + 1)) parts.0 more in
    let e : suc (count + 1) ≡ suc count + 1 = omega arith in
    subst (λ k. has_none s source i k ≡ true) e all

-- one number of the stretch is the source's
pub has_none-found : (s : State) (source : SourceRef) (i count j : ℕ) → i ≤ j → j < i + count →
    is_nearest s source (place_at s j) ≡ true → has_none s source i count ≡ false
has_none-found s source i count j from below here =
    false_from_ne_true (has_none s source i count) (λ none.
    both_ways _ (has_none-at s source i count j none from below) here)

pub has_none-nothing : (s : State) (source : SourceRef) (i : ℕ) → has_none s source i 0 ≡ true
unfolding has_none
has_none-nothing s source i = refl
