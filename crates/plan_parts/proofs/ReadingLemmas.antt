-- What a fact of a reading's value says once the keys beside it were checked.
use Rattle.std.proofs.Common.{◌≡◌, ℕ, Bool, true, false, List, cond, subst, sym}
use Rattle.serde_json.specs.Data.{Data}
use Rattle.plan_parts.specs.declared.reading.Reading.{Reading}
use Rattle.plan_parts.specs.declared.reading.Reading.TheVariants.{Good, Bad}
use Rattle.plan_parts.specs.declared.reading.TheConstants.{NAME_FAULT}
use Rattle.plan_parts.specs.Reading.{IfGood, blamed}
use Rattle.plan_parts.specs.Objects.{has_unknown_key, with_keys}

IfGood-unless : {A : Type 0} (b : Bool) (r : Reading A) (P : A → Type 0) → IfGood r P
    → IfGood (cond b (blamed NAME_FAULT r) r) P
IfGood-unless true (Good a) P is = tt
IfGood-unless true (Bad faults) P is = tt
IfGood-unless false r P is = is

pub IfGood-with_keys : {A : Type 0} (known : List (List ℕ)) (d : Data) (r new : Reading A)
    (P : A → Type 0) → IfGood r P → new ≡ with_keys known d r → IfGood new P
IfGood-with_keys {A = A} known d r new P is same =
    let Q : Reading A → Type 0 = λ x. IfGood x P in
    subst Q (sym same) (IfGood-unless (has_unknown_key known d) r P is)
