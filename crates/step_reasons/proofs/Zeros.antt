-- Counts that are 0, or at least 1.
use Rattle.std.proofs.Common.{◌≡◌, ℕ, zero, suc, true, false, Option, None, Some, refl, arith}
use Rattle.std.specs.Prelude.{nat_le, ◌==◌}
use Rattle.std.proofs.lemmas.Bool.{le-leb, both_ways}

pub none-zero : (n : ℕ) → nat_le 1 n ≡ false → (n == 0) ≡ true
none-zero zero e = refl
none-zero (suc n) e = absurd (both_ways (nat_le 1 (suc n)) e (le-leb 1 (suc n) (omega arith)))

-- a result is none where it is nothing else
pub none-from : {A : Type 0} (o : Option A) → ((x : A) → o ≡ Some x → ⊥) → o ≡ None
none-from None other = refl
none-from (Some x) other = absurd (other x refl)
