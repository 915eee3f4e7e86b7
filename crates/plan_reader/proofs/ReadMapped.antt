-- What is made of a value that was read, from what a call of `map` says.
use Rattle.std.proofs.Common.{◌≡◌, sym, ap, subst}
use Rattle.plan_parts.specs.declared.reading.Reading.{Reading}
use Rattle.plan_parts.specs.declared.reading.Reading.TheVariants.{Good, Bad}
use Rattle.plan_parts.specs.Reading.{IfGood, IsMapped, mapped}

pub mapped-is : {A B : Type 0} (made : A → B → Type 0) (f : A → B) (r : Reading A) (s : Reading B)
    → ((a : A) (b : B) → made a b → b ≡ f a) → IsMapped made r s → s ≡ mapped f r
mapped-is made f (Good a) (Good b) says is = ap Good (says a b is)
mapped-is made f (Good a) (Bad faults) says is = absurd is
mapped-is made f (Bad faults) s says is = is

-- a fact of the value that was read gives one of what is made of it
good-mapped : {A B : Type 0} (P : A → Type 0) (Q : B → Type 0) (f : A → B) (r : Reading A)
    → ((a : A) → P a → Q (f a)) → IfGood r P → IfGood (mapped f r) Q
good-mapped P Q f (Good a) gives good = gives a good
good-mapped P Q f (Bad faults) gives good = tt

pub mapped-good : {A B : Type 0} (P : A → Type 0) (Q : B → Type 0) (f : A → B) (r : Reading A)
    (s : Reading B) → ((a : A) → P a → Q (f a)) → s ≡ mapped f r → IfGood r P → IfGood s Q
mapped-good P Q f r s gives is good =
    subst (λ x. IfGood x Q) (sym is) (good-mapped P Q f r gives good)

-- what is made of it meets this whatever the value is
any-mapped : {A B : Type 0} (Q : B → Type 0) (f : A → B) (r : Reading A) → ((a : A) → Q (f a))
    → IfGood (mapped f r) Q
any-mapped Q f (Good a) meets = meets a
any-mapped Q f (Bad faults) meets = tt

pub mapped-any : {A B : Type 0} (Q : B → Type 0) (f : A → B) (r : Reading A) (s : Reading B)
    → ((a : A) → Q (f a)) → s ≡ mapped f r → IfGood s Q
mapped-any Q f r s meets is = subst (λ x. IfGood x Q) (sym is) (any-mapped Q f r meets)

-- what is asked of each value is met where one was read
pub good-each : {A : Type 0} (P : A → Type 0) (r : Reading A) → ((a : A) → P a) → IfGood r P
good-each P (Good a) meets = meets a
good-each P (Bad faults) meets = tt
