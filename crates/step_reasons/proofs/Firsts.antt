-- The first number that passes a test.
use Rattle.std.proofs.Common.{◌≡◌, ℕ, zero, suc, ◌+◌, ◌-◌, ◌<◌, ◌≤◌, Bool, true, false, cond, refl, sym, ap, ◌∙◌, inl, inr, subst, arith}
use Rattle.std.proofs.lemmas.Bool.{cases_eq, both_ways}
use Rattle.common_lemmas.proofs.Bool.{either}
use Rattle.step_reasons.specs.Standings.{first_from, first_below}

-- the test of the first number
pub first_from-passes : (test : ℕ → Bool) (i n k : ℕ) → k ≡ n - i → i < n → test i ≡ true → first_from test i k ≡ i
unfolding first_from
first_from-passes test i n zero e l t = absurd (omega (arith, e, l))
first_from-passes test i n (suc k) e l t = ap (λ b. cond b i (first_from test (suc i) k)) t

pub first_from-fails : (test : ℕ → Bool) (i n k : ℕ) → k ≡ n - i → i < n → test i ≡ false → first_from test i k ≡ first_from test (i + 1) (n - (i + 1))
unfolding first_from
first_from-fails test i n zero e l f = absurd (omega (arith, e, l))
first_from-fails test i n (suc k) e l f =
    let next : suc i ≡ i + 1 = omega arith in
    let left : k ≡ n - (i + 1) = omega (arith, e, l) in
    ap (λ b. cond b i (first_from test (suc i) k)) f ∙ ap (λ j. first_from test j k) next ∙ ap (first_from test (i + 1)) left

pub first_from-none : (test : ℕ → Bool) (i k : ℕ) → k ≡ 0 → first_from test i k ≡ i
unfolding first_from
first_from-none test i zero e = refl
first_from-none test i (suc k) e = absurd (omega (arith, e))

-- a search goes on from its first number
pub first-start : (test : ℕ → Bool) (n : ℕ) → first_below test n ≡ first_from test 0 (n - 0)
first-start test n = let e : n ≡ n - 0 = omega arith in ap (first_from test 0) e

pub first-found : (test : ℕ → Bool) (n i : ℕ) → i < n → first_below test n ≡ first_from test i (n - i) → test i ≡ true → first_below test n ≡ i
first-found test n i l e t = e ∙ first_from-passes test i n (n - i) refl l t

pub first-next : (test : ℕ → Bool) (n i : ℕ) → i < n → first_below test n ≡ first_from test i (n - i) → test i ≡ false → first_below test n ≡ first_from test (i + 1) (n - (i + 1))
first-next test n i l e f = e ∙ first_from-fails test i n (n - i) refl l f

pub first-end : (test : ℕ → Bool) (n i : ℕ) → i ≡ n → first_below test n ≡ first_from test i (n - i) → first_below test n ≡ n
first-end test n i at e =
    let none : n - i ≡ 0 = omega (arith, at) in
    e ∙ first_from-none test i (n - i) none ∙ at

-- the number that is found passes the test
first_from-is : (test : ℕ → Bool) (i k : ℕ) → first_from test i k < i + k → test (first_from test i k) ≡ true
unfolding first_from
first_from-is test i zero l = absurd (omega (arith, l))
first_from-is test i (suc k) l =
    either (test i)
    (λ t. let here : first_from test i (suc k) ≡ i = ap (λ b. cond b i (first_from test (suc i) k)) t in ap test here ∙ t)
    (λ f.
    let there : first_from test i (suc k) ≡ first_from test (suc i) k = ap (λ b. cond b i (first_from test (suc i) k)) f in
    let within : first_from test (suc i) k < suc i + k = omega (arith, l, there) in
    ap test there ∙ first_from-is test (suc i) k within)

pub first-is : (test : ℕ → Bool) (n : ℕ) → first_below test n < n → test (first_below test n) ≡ true
first-is test n l = first_from-is test 0 n (omega (arith, l))

-- one number alone passes the test
first_from-only : (test : ℕ → Bool) (i k j : ℕ) → i ≤ j → j < i + k → test j ≡ true → ((m : ℕ) → m < i + k → test m ≡ true → m ≡ j) → first_from test i k ≡ j
unfolding first_from
first_from-only test i zero j from l t only = absurd (omega (arith, from, l))
first_from-only test i (suc k) j from l t only =
    either (test i)
    (λ here. ap (λ b. cond b i (first_from test (suc i) k)) here ∙ only i (omega arith) here)
    (λ f.
    let other : i ≡ j → ⊥ = λ e. both_ways (test i) f (ap test e ∙ t) in
    let after : suc i ≤ j = omega (arith, from, other) in
    ap (λ b. cond b i (first_from test (suc i) k)) f
    ∙ first_from-only test (suc i) k j after (omega (arith, l)) t (λ m below passes. only m (omega (arith, below)) passes))

pub first-only : (test : ℕ → Bool) (n j : ℕ) → j < n → test j ≡ true → ((m : ℕ) → m < n → test m ≡ true → m ≡ j) → first_below test n ≡ j
first-only test n j l t only =
    first_from-only test 0 n j (omega arith) (omega (arith, l)) t (λ m below passes. only m (omega (arith, below)) passes)

-- a number passes the test, and so one is found
first_from-some : (test : ℕ → Bool) (i k j : ℕ) → i ≤ j → j < i + k → test j ≡ true → first_from test i k ≤ j
unfolding first_from
first_from-some test i zero j from l t = absurd (omega (arith, from, l))
first_from-some test i (suc k) j from l t =
    either (test i)
    (λ here. let at : first_from test i (suc k) ≡ i = ap (λ b. cond b i (first_from test (suc i) k)) here in omega (arith, at, from))
    (λ f.
    let there : first_from test i (suc k) ≡ first_from test (suc i) k = ap (λ b. cond b i (first_from test (suc i) k)) f in
    let other : i ≡ j → ⊥ = λ e. both_ways (test i) f (ap test e ∙ t) in
    let after : suc i ≤ j = omega (arith, from, other) in
    omega (arith, there, first_from-some test (suc i) k j after (omega (arith, l)) t))

pub first-some : (test : ℕ → Bool) (n j : ℕ) → j < n → test j ≡ true → first_below test n ≤ j
first-some test n j l t = first_from-some test 0 n j (omega arith) (omega (arith, l)) t
