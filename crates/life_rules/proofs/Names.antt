-- When two names or sources are the same, and what a view has more or less of a name.
use Rattle.std.proofs.Common.{◌≡◌, ℕ, ◌+◌, ◌-◌, Bool, true, false, refl, ap, subst, arith}
use Rattle.std.proofs.lemmas.Bool.{and_parts, and_from, eqb-true, eq-eqb, both_ways, false_from_ne_true}
use Rattle.life_rules.specs.declared.event.Name.{Name}
use Rattle.life_rules.specs.declared.event.SourceRef.{SourceRef}
use Rattle.life_rules.specs.declared.event.SourceRef.TheVariants.{Scope, Node}
use Rattle.life_rules.specs.Views.{same, same_source, gain, lose}
use Rattle.common_lemmas.specs.Sums.{one}
use Rattle.common_lemmas.proofs.Bool.{either, one-false}

pub same-refl : (x : Name) → same x x ≡ true
same-refl x = and_from _ _ (eq-eqb x.block x.block refl) (and_from _ _ (eq-eqb x.generation x.generation refl) (eq-eqb x.node x.node refl))

pub same-true : (x y : Name) → same x y ≡ true → x ≡ y
same-true x y h =
    let a = and_parts _ _ h in
    let b = and_parts _ _ a.1 in
    let p : x.block ≡ y.block = eqb-true _ _ a.0 in
    let q : x.generation ≡ y.generation = eqb-true _ _ b.0 in
    let r : x.node ≡ y.node = eqb-true _ _ b.1 in
    λ i. record { block = p i; generation = q i; node = r i }

pub same-other : (x y : Name) → (x ≡ y → ⊥) → same x y ≡ false
same-other x y ne = false_from_ne_true _ (λ t. ne (same-true x y t))

pub same_source-refl : (t : SourceRef) → same_source t t ≡ true
same_source-refl Scope = refl
same_source-refl (Node x) = same-refl x

pub same_source-true : (t u : SourceRef) → same_source t u ≡ true → t ≡ u
same_source-true Scope Scope h = refl
same_source-true Scope (Node y) h = cc
same_source-true (Node x) Scope h = cc
same_source-true (Node x) (Node y) h = ap Node (same-true x y h)

-- two names are one or not
pub by_name : {G : Type 0} (x y : Name) → (x ≡ y → G) → ((x ≡ y → ⊥) → G) → G
by_name x y here other =
    either (same x y) (λ t. here (same-true x y t))
    (λ f. other (λ e. both_ways (same x y) f (subst (λ z. same x z ≡ true) e (same-refl x))))

pub gain-here : (x : Name) (f : Name → ℕ) → gain x f x ≡ f x + 1
gain-here x f = ap (λ b. f x + one b) (same-refl x)

pub gain-other : (x y : Name) (f : Name → ℕ) → (x ≡ y → ⊥) → gain x f y ≡ f y
gain-other x y f ne = let e : one (same x y) ≡ 0 = one-false (same-other x y ne) in omega (arith, e)

pub lose-here : (x : Name) (f : Name → ℕ) → lose x f x ≡ f x - 1
lose-here x f = ap (λ b. f x - one b) (same-refl x)

pub lose-other : (x y : Name) (f : Name → ℕ) → (x ≡ y → ⊥) → lose x f y ≡ f y
lose-other x y f ne = let e : one (same x y) ≡ 0 = one-false (same-other x y ne) in omega (arith, e)
