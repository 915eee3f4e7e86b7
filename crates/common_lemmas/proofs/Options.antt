-- Options: the two cases of one.
use Rattle.std.proofs.Common.{◌≡◌, Bool, true, false, Option, Some, None, refl}
use Rattle.std.specs.Option.{option_map_or}
use Rattle.std.specs.Prelude.{is_some}

-- an option is none, or has a value
pub known : {A G : Type 0} (o : Option A) → (o ≡ None → G) → ((x : A) → o ≡ Some x → G) → G
known None is_none is_some = is_none refl
known (Some x) is_none is_some = is_some x refl

pub none-from : {A : Type 0} (o : Option A) → is_some o ≡ false → o ≡ None
none-from None e = refl
none-from (Some x) e = cc

-- where a test of the value holds, there is one
pub map_or-some : {A : Type 0} (f : A → Bool) (o : Option A) → option_map_or f o false ≡ true →
    (x : A) × (o ≡ Some x) × (f x ≡ true)
map_or-some f None e = cc
map_or-some f (Some x) e = (x, refl, e)
