-- The least number that passes a test.
use Rattle.std.proofs.Common.{◌≡◌, ℕ, zero, suc, ◌<◌, ◌≤◌, Bool, true, false, cond, Option, Some, None, refl, sym, ap, ◌∙◌, inl, inr, arith}
use Rattle.std.specs.Prelude.{MatchOption}
use Rattle.std.specs.Option.{option_or}
use Rattle.std.proofs.lemmas.Bool.{cases_eq, cond-true, cond-false}
use Rattle.std.proofs.lemmas.Option.{same_Some}
use Rattle.common_lemmas.proofs.Bool.{either}
use Rattle.common_lemmas.proofs.Options.{known}
use Rattle.plan_shape.specs.Least.{least}

-- n is the least number below m that passes
pub record IsLeast (test : ℕ → Bool) (m n : ℕ) : Type 0 where
  pub within : n < m
  pub passes : test n ≡ true
  pub first : (k : ℕ) → k < n → test k ≡ false

-- one number more
pub least-suc : (test : ℕ → Bool) (m : ℕ) → test m ≡ false → least test (suc m) ≡ least test m
least-suc test m f =
    known (least test m)
    (λ none. ap (λ o. option_or o (cond (test m) (Some m) None)) none ∙ cond-false (test m) (Some m) None f ∙ sym none)
    (λ k some. ap (λ o. option_or o (cond (test m) (Some m) None)) some ∙ sym some)

pub least-hit : (test : ℕ → Bool) (m : ℕ) → least test m ≡ None → test m ≡ true → least test (suc m) ≡ Some m
least-hit test m none t =
    ap (λ o. option_or o (cond (test m) (Some m) None)) none ∙ cond-true (test m) (Some m) None t

pub least-Some_suc : (test : ℕ → Bool) (m n : ℕ) → least test m ≡ Some n → least test (suc m) ≡ Some n
least-Some_suc test m n some = ap (λ o. option_or o (cond (test m) (Some m) None)) some

-- what was found below m stays the least below a greater bound
pub least-Some_more : (test : ℕ → Bool) (m j n : ℕ) → m ≤ j → least test m ≡ Some n → least test j ≡ Some n
least-Some_more test m zero n l e = let at : m ≡ 0 = omega arith in ap (least test) (sym at) ∙ e
least-Some_more test m (suc j) n l e =
    elim (cases_eq m (suc j)) [
      | inl at ↦ ap (least test) (sym at) ∙ e
      | inr other ↦ least-Some_suc test j n (least-Some_more test m j n (omega (arith, other)) e)
    ]

-- none passes
pub least-None : (test : ℕ → Bool) (m : ℕ) → ((k : ℕ) → k < m → test k ≡ false) → least test m ≡ None
least-None test zero h = refl
least-None test (suc m) h =
    least-suc test m (h m (omega arith)) ∙ least-None test m (λ k l. h k (omega arith))

pub none_passes : (test : ℕ → Bool) (m : ℕ) → least test m ≡ None → (k : ℕ) → k < m → test k ≡ false
none_passes test zero e k l = absurd (omega arith)
none_passes test (suc m) e k l =
    known (least test m)
    (λ none.
    either (test m)
    (λ t. let some = least-hit test m none t in absurd (cc))
    (λ f. elim (cases_eq k m) [
      | inl at ↦ ap test at ∙ f
      | inr other ↦ none_passes test m none k (omega (arith, other))
    ]))
    (λ n some. let more = least-Some_suc test m n some in absurd (cc))

pub least-IsLeast : (test : ℕ → Bool) (m n : ℕ) → least test m ≡ Some n → IsLeast test m n
least-IsLeast test zero n e = absurd (cc)
least-IsLeast test (suc m) n e =
    known (least test m)
    (λ none.
    either (test m)
    (λ t.
    let at : m ≡ n = same_Some m n (sym (least-hit test m none t) ∙ e) in
    record {
      within = omega arith;
      passes = ap test (sym at) ∙ t;
      first = λ k l. none_passes test m none k (omega arith);
    })
    (λ f. let nothing = least-suc test m f ∙ none in absurd (cc)))
    (λ k some.
    let at : k ≡ n = same_Some k n (sym (least-Some_suc test m k some) ∙ e) in
    let found = least-IsLeast test m n (some ∙ ap Some at) in
    record { within = omega (arith, found.within); passes = found.passes; first = found.first })

pub least-found : (test : ℕ → Bool) (m n : ℕ) → IsLeast test m n → least test m ≡ Some n
least-found test m n h =
    least-Some_more test (suc n) m n (omega (arith, h.within))
    (least-hit test n (least-None test n h.first) h.passes)

-- tests that agree below the bound
pub least-same : (test other : ℕ → Bool) (m : ℕ) → ((k : ℕ) → k < m → test k ≡ other k) → least test m ≡ least other m
least-same test other zero h = refl
least-same test other (suc m) h =
    let below : least test m ≡ least other m = least-same test other m (λ k l. h k (omega arith)) in
    let here : test m ≡ other m = h m (omega arith) in
    ap (λ o. option_or o (cond (test m) (Some m) None)) below
    ∙ ap (λ b. option_or (least other m) (cond b (Some m) None)) here

-- numbers that don't pass change nothing
pub least-quiet : (test : ℕ → Bool) (m j : ℕ) → m ≤ j → ((k : ℕ) → m ≤ k → k < j → test k ≡ false) →
    least test j ≡ least test m
least-quiet test m zero l h = let at : m ≡ 0 = omega arith in ap (least test) (sym at)
least-quiet test m (suc j) l h =
    elim (cases_eq m (suc j)) [
      | inl at ↦ ap (least test) (sym at)
      | inr other ↦
          least-suc test j (h j (omega (arith, other)) (omega arith))
          ∙ least-quiet test m j (omega (arith, other)) (λ k a b. h k a (omega arith))
    ]

-- a test that adds one number to what another finds
pub least-joined : (test other : ℕ → Bool) (m j : ℕ) → m ≤ j → ((k : ℕ) → k < m → test k ≡ other k) →
    ((k : ℕ) → m ≤ k → k < j → other k ≡ false) →
    least other (suc j) ≡ option_or (least test m) (cond (other j) (Some j) None)
least-joined test other m j l same quiet =
    let before : least other j ≡ least test m =
    least-quiet other m j l quiet ∙ sym (least-same test other m same) in
    ap (λ o. option_or o (cond (other j) (Some j) None)) before

-- what a search from 0 up answers
pub least-searched : (test : ℕ → Bool) (m : ℕ) (r : Option ℕ) →
    MatchOption r ((k : ℕ) → 0 ≤ k → k < m → test k ≡ false)
    (λ i. (0 ≤ i) × (i < m) × (test i ≡ true) × ((k : ℕ) → 0 ≤ k → k < i → test k ≡ false)) →
    r ≡ least test m
least-searched test m None h = sym (least-None test m (λ k l. h k (omega arith) l))
least-searched test m (Some i) h =
    sym (least-found test m i (record { within = h.1; passes = h.2; first = λ k l. h.3 k (omega arith) l }))
