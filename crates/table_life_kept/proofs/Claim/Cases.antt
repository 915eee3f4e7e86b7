-- Where it doesn't matter which case it is.
use Rattle.std.proofs.Common.{◌≡◌, Option, Some, None, ℕ, refl}
use Rattle.std.specs.Option.{option_map_or}

-- a sum over no item, or over one that counts nothing
pub none-counts : (o : Option ℕ) (f : ℕ → ℕ) → ((p : ℕ) → f p ≡ 0) → option_map_or f o 0 ≡ 0
none-counts None f e = refl
none-counts (Some p) f e = e p
