-- Tests: the two cases of one, and its number. More on tests is in std's Math.Bool.
use Rattle.std.proofs.Common.{◌≡◌, ◌≤◌, ℕ, ◌+◌, Bool, true, false, ◌&&◌, ◌||◌, cond, eqb, refl, sym, ap, ◌∙◌, arith}
use Rattle.std.proofs.lemmas.Bool.{both_ways, eqb-true, eq-eqb, ne_eqb}
use Rattle.common_lemmas.specs.Sums.{one}

-- a test is true or false
pub either : {G : Type 0} (b : Bool) → (b ≡ true → G) → (b ≡ false → G) → G
either true is_true is_false = is_true refl
either false is_true is_false = is_false refl

pub one-true : {b : Bool} → b ≡ true → one b ≡ 1
one-true e = ap one e

pub one-false : {b : Bool} → b ≡ false → one b ≡ 0
one-false e = ap one e

pub one-most : (b : Bool) → one b ≤ 1
one-most b = either b (λ t. omega (arith, one-true t)) (λ f. omega (arith, one-false f))

pub one-is : {b : Bool} → 1 ≤ one b → b ≡ true
one-is {b} h = either b (λ t. t) (λ f. let e : one b ≡ 0 = one-false f in absurd (omega (arith, h, e)))

pub one-none : {b : Bool} → one b ≤ 0 → b ≡ false
one-none {b} h = either b (λ t. let e : one b ≡ 1 = one-true t in absurd (omega (arith, h, e))) (λ f. f)

pub one-below : (a b : Bool) → (a ≡ true → b ≡ true) → one a ≤ one b
one-below a b h = either a (λ t. omega (arith, one-true t, one-true (h t))) (λ f. omega (arith, one-false f))

pub one-and_false : (b : Bool) → one (b && false) ≡ 0
one-and_false true = refl
one-and_false false = refl

-- of two tests at most one holds
pub one-or : (a b : Bool) → (a ≡ true → b ≡ false) → one (a || b) ≡ one a + one b
one-or true b e = let none : one b ≡ 0 = ap one (e refl) in omega (arith, none)
one-or false b e = omega arith

-- where both branches are the same, the test doesn't count
pub both-same : {A : Type 0} (b : Bool) (a : A) → cond b a a ≡ a
both-same true a = refl
both-same false a = refl

pub eqb-sym : (a b : ℕ) → eqb a b ≡ eqb b a
eqb-sym a b =
    either (eqb a b)
    (λ t. t ∙ sym (eq-eqb b a (sym (eqb-true a b t))))
    (λ f. f ∙ sym (ne_eqb b a (λ e. both_ways (eqb a b) f (eq-eqb a b (sym e)))))
