-- Tests as numbers, and sums.
use Rattle.std.specs.Prelude.{ℕ, zero, suc, ◌+◌, Bool, if◌then◌else◌}

-- a test counts 1 where it holds
abbrev pub one : Bool → ℕ
one b = if b then 1 else 0

-- the sum of f below n
abbrev pub total : (ℕ → ℕ) → ℕ → ℕ
total f zero = 0
total f (suc n) = total f n + f n
