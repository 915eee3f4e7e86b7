-- The least number that passes a test.
use Rattle.std.specs.Prelude.{ℕ, zero, suc, Bool, if◌then◌else◌, Option, Some, None}
use Rattle.std.specs.Option.{option_or}

-- of the numbers below a bound
abbrev pub least : (ℕ → Bool) → ℕ → Option ℕ
least test zero = None
least test (suc n) = option_or (least test n) (if test n then Some n else None)
