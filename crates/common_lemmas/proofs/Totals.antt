-- Sums below a number: what a change at one place does.
use Rattle.std.proofs.Common.{◌≡◌, ℕ, zero, suc, ◌+◌, ◌<◌, ◌≤◌, refl, sym, ap, inl, inr, arith}
use Rattle.std.proofs.lemmas.Bool.{cases_eq, cases_lt}
use Rattle.common_lemmas.specs.Sums.{total}

pub total-same : (f g : ℕ → ℕ) (n : ℕ) → ((i : ℕ) → i < n → f i ≡ g i) → total f n ≡ total g n
total-same f g zero e = refl
total-same f g (suc n) e =
    let before : total f n ≡ total g n = total-same f g n (λ i l. e i (omega arith)) in
    let here : f n ≡ g n = e n (omega arith) in
    omega (arith, before, here)

pub total-zero : (f : ℕ → ℕ) (n : ℕ) → ((i : ℕ) → i < n → f i ≡ 0) → total f n ≡ 0
total-zero f zero e = refl
total-zero f (suc n) e =
    let before : total f n ≡ 0 = total-zero f n (λ i l. e i (omega arith)) in
    let here : f n ≡ 0 = e n (omega arith) in
    omega (arith, before, here)

pub total-ones : (n : ℕ) → total (λ _. 1) n ≡ n
total-ones zero = refl
total-ones (suc n) = omega (arith, total-ones n)

pub total-plus : (f g : ℕ → ℕ) (n : ℕ) → total (λ i. f i + g i) n ≡ total f n + total g n
total-plus f g zero = refl
total-plus f g (suc n) = omega (arith, total-plus f g n)

pub total-most : (f g : ℕ → ℕ) (n : ℕ) → ((i : ℕ) → i < n → f i ≤ g i) → total f n ≤ total g n
total-most f g zero e = omega arith
total-most f g (suc n) e =
    let before : total f n ≤ total g n = total-most f g n (λ i l. e i (omega arith)) in
    let here : f n ≤ g n = e n (omega arith) in
    omega (arith, before, here)

-- one summand is at most the sum
pub total-at : (f : ℕ → ℕ) (n i : ℕ) → i < n → f i ≤ total f n
total-at f zero i l = absurd (omega (arith, l))
total-at f (suc n) i l =
    elim (cases_eq i n) [
      | inl e ↦ let here : f i ≡ f n = ap f e in omega (arith, here)
      | inr ne ↦ let below : i < n = omega arith in omega (arith, total-at f n i below)
    ]

-- a change at h alone moves the sum by as much
pub total-moved : (f g : ℕ → ℕ) (n h : ℕ) → h < n → ((i : ℕ) → i < n → (i ≡ h → ⊥) → g i ≡ f i) →
    total g n + f h ≡ total f n + g h
total-moved f g zero h l e = absurd (omega (arith, l))
total-moved f g (suc n) h l e =
    elim (cases_eq h n) [
      | inl at ↦
          let same : total g n ≡ total f n = total-same g f n (λ i below. e i (omega arith) (λ here. absurd (omega arith))) in
          let p : f h ≡ f n = ap f at in
          let q : g h ≡ g n = ap g at in
          omega (arith, same, p, q)
      | inr ne ↦
          let below : h < n = omega arith in
          let last : g n ≡ f n = e n (omega arith) (λ here. ne (sym here)) in
          let before : total g n + f h ≡ total f n + g h = total-moved f g n h below (λ i l. e i (omega arith)) in
          omega (arith, last, before)
    ]

-- a sum that isn't 0 has a summand that isn't
pub total-some : (f : ℕ → ℕ) (n : ℕ) → 1 ≤ total f n → (i : ℕ) × (i < n) × (1 ≤ f i)
total-some f zero l = absurd (omega (arith, l))
total-some f (suc n) l =
    elim (cases_lt 0 (f n)) [
      | inl here ↦ (n, omega arith, here)
      | inr no_here ↦
          let before : 1 ≤ total f n = omega (arith, l, no_here) in
          let at = total-some f n before in
          (at.0, omega (arith, at.1), at.2)
    ]

-- where the sum is at most 1, at most one summand isn't 0
pub total-single : (f : ℕ → ℕ) (n i j : ℕ) → total f n ≤ 1 → i < n → j < n → 1 ≤ f i → 1 ≤ f j → i ≡ j
total-single f zero i j most l m at_i at_j = absurd (omega (arith, l))
total-single f (suc n) i j most l m at_i at_j =
    elim (cases_eq i n) [
      | inl i_last ↦ elim (cases_eq j n) [
        | inl j_last ↦ omega arith
        | inr j_other ↦
            let below : j < n = omega arith in
            let a : f j ≤ total f n = total-at f n j below in
            let b : f i ≡ f n = ap f i_last in
            absurd (omega (arith, a, b))
      ]
      | inr i_other ↦ elim (cases_eq j n) [
        | inl j_last ↦
            let below : i < n = omega arith in
            let a : f i ≤ total f n = total-at f n i below in
            let b : f j ≡ f n = ap f j_last in
            absurd (omega (arith, a, b))
        | inr j_other ↦ total-single f n i j (omega arith) (omega arith) (omega arith) at_i at_j
      ]
    ]
