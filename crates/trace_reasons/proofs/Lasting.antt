-- Since when a fact is so, one state further.
use Rattle.std.proofs.Common.{◌≡◌, ℕ, ◌+◌, ◌-◌, ◌<◌, ◌≤◌, sym, subst, inl, inr, arith}
use Rattle.std.proofs.lemmas.Bool.{cases_eq}
use Rattle.replay_core.specs.Traces.{state_at}
use Rattle.step_reasons.specs.declared.fact.Fact.{Fact}
use Rattle.step_reasons.specs.So.{IsSo}
use Rattle.trace_text.specs.Values.{TraceValue}
use Rattle.trace_reasons.specs.Since.{IsSince}

-- it was so in each state from j on, and is so in one more
pub holds-more : (t : TraceValue) (fact : Fact) (j n : ℕ) → ((i : ℕ) → j ≤ i → i < n → IsSo (state_at t i) fact) → IsSo (state_at t n) fact
    → (i : ℕ) → j ≤ i → i < n + 1 → IsSo (state_at t i) fact
holds-more t fact j n so here i from below =
    elim (cases_eq i n) [
      | inl at ↦ subst (λ (k : ℕ). IsSo (state_at t k) fact) (sym at) here
      | inr other ↦ so i from (omega (arith, below, other))
    ]

-- none lies between
pub holds-none : (t : TraceValue) (fact : Fact) (n : ℕ) (i : ℕ) → n + 1 ≤ i → i < n + 1 → IsSo (state_at t i) fact
holds-none t fact n i from below = absurd (omega (arith, from, below))

-- it wasn't so before
pub before-more : (t : TraceValue) (fact : Fact) (n : ℕ) → ¬ IsSo (state_at t n) fact → 1 ≤ n + 1 → ¬ IsSo (state_at t (n + 1 - 1)) fact
before-more t fact n not some =
    let same : n ≡ n + 1 - 1 = omega arith in
    subst (λ (k : ℕ). ¬ IsSo (state_at t k) fact) same not

-- the entry that made it so
pub since-is : (t : TraceValue) (fact : Fact) (k j : ℕ) → j ≤ k → ((i : ℕ) → j ≤ i → i < k → IsSo (state_at t i) fact) → IsSo (state_at t k) fact
    → (1 ≤ j → ¬ IsSo (state_at t (j - 1)) fact) → IsSince t fact k j
since-is t fact k j within so here before = record {
  within = within;
  holds = λ i from most. holds-more t fact j k so here i from (omega (arith, most));
  before = before;
}
