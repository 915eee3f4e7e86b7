-- The shares of a row, one after the other, are the row.
use Rattle.std.specs.Prelude.{◌/◌}
use Rattle.std.proofs.Common.{◌≡◌, ℕ, ◌+◌, ◌-◌, ◌*◌, ◌≤◌, ℤ, List, ◌++◌, length, take, drop, sym, ap, ◌∙◌, arith}
use Rattle.std.proofs.Math.Nat.{suc-mul}
use Rattle.std.proofs.Math.Numerals.{add-one}
use Rattle.std.proofs.lemmas.List.{take-append-drop, take-take, drop-take}
use Rattle.plan_shape.specs.declared.limits.TheConstants.{BULK_PARTS}
use Rattle.home_items.specs.Shares.{first_index, share_of}

-- the first share begins with the row
pub first-none : (count : ℕ) → first_index count 0 ≡ 0
first-none count = omega arith

-- the shares rise
pub first-rises : (count part : ℕ) → first_index count part ≤ first_index count (part + 1)
first-rises count part =
    let next : (part + 1) * (count / BULK_PARTS) ≡ part * (count / BULK_PARTS) + count / BULK_PARTS =
    rw (add-one part) (suc-mul part (count / BULK_PARTS)) in
    omega (arith, next)

-- all shares together end with the row
pub first-last : (count : ℕ) → first_index count BULK_PARTS ≡ count
first-last count = omega arith

-- what stands before the next share is what stands before the share, and the share
pub shares-join : (whole : List ℤ) (part : ℕ) →
    take (first_index (length whole) (part + 1)) whole ≡ take (first_index (length whole) part) whole ++ share_of whole part
shares-join whole part =
    let n : ℕ = first_index (length whole) part in
    let m : ℕ = first_index (length whole) (part + 1) - n in
    let split : first_index (length whole) (part + 1) ≡ n + m = omega (arith, first-rises (length whole) part) in
    ap (λ i. take i whole) split
    ∙ sym (take-append-drop n (take (n + m) whole))
    ∙ ap (λ xs. xs ++ drop n (take (n + m) whole)) (take-take n (n + m) whole (omega arith))
    ∙ ap (λ xs. take n whole ++ xs) (drop-take n m whole)
