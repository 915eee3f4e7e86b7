-- The laws of the lines within the limits.
use Rattle.std.proofs.Common.{◌≡◌, ℕ, ◌+◌, ◌-◌, ◌≤◌, ◌⊎◌, List, ◌++◌, length, take, sym, ap, ◌∙◌, inl, inr, arith}
use Rattle.std.proofs.Math.Seq.{take-append-add}
use Rattle.std.proofs.lemmas.Bool.{cases_lt}
use Rattle.std.proofs.lemmas.List.{take_all, take-append-le}
use Rattle.record_lines.specs.declared.limits.TheConstants.{MOST_RECORDS, MOST_BYTES}
use Rattle.record_lines.specs.Lines.{whole_lines, rest_of}
use Rattle.record_lines.specs.Records.{limited_lines}
use Rattle.record_lines.proofs.LineLaws.{whole_lines-append}

-- the first m elements of joined lists, of which the first list has no more
take_past : {A : Type 0} (m : ℕ) (xs ys : List A) → length xs ≤ m → take m (xs ++ ys) ≡ xs ++ take (m - length xs) ys
take_past m xs ys h =
    let sum : m ≡ length xs + (m - length xs) = omega arith in
    ap (λ k. take k (xs ++ ys)) sum ∙ take-append-add xs ys (m - length xs)

-- at most n lines of the first m bytes
abbrev limited : ℕ → ℕ → List ℕ → List (List ℕ)
limited n m bytes = take n (whole_lines (take m bytes))

limited-within : (n m : ℕ) (a : List ℕ) → length a ≤ m → length (whole_lines a) ≤ n → limited n m a ≡ whole_lines a
limited-within n m a size count =
    ap (λ bytes. take n (whole_lines bytes)) (take_all m a size) ∙ take_all n (whole_lines a) count

-- where the first bytes are as many as the limit, the others change nothing
limited-full_bytes : (n m : ℕ) (a b : List ℕ) → m ≤ length a → limited n m (a ++ b) ≡ limited n m a
limited-full_bytes n m a b size = ap (λ bytes. take n (whole_lines bytes)) (take-append-le m a b size)

-- the same where their lines are as many
limited-full_lines : (n m : ℕ) (a b : List ℕ) → n ≤ length (whole_lines a) → limited n m (a ++ b) ≡ limited n m a
limited-full_lines n m a b count = elim (cases_lt (length a) m) [
  | inr full ↦ limited-full_bytes n m a b full
  | inl within ↦
      ap (λ bytes. take n (whole_lines bytes)) (take_past m a b (omega arith))
      ∙ ap (take n) (whole_lines-append a (take (m - length a) b))
      ∙ take-append-le n (whole_lines a) (whole_lines (rest_of a ++ take (m - length a) b)) count
      ∙ ap (λ bytes. take n (whole_lines bytes)) (sym (take_all m a (omega arith)))
]

-- within the limits all whole lines are records
pub limited_lines-within : (a : List ℕ) → length a ≤ MOST_BYTES → length (whole_lines a) ≤ MOST_RECORDS → limited_lines a ≡ whole_lines a
unfolding limited_lines
limited_lines-within a size count = limited-within MOST_RECORDS MOST_BYTES a size count

-- once a limit is reached, more bytes bring no more lines within the limits
pub limited_lines-full : (a b : List ℕ) → (MOST_BYTES ≤ length a) ⊎ (MOST_RECORDS ≤ length (whole_lines a)) → limited_lines (a ++ b) ≡ limited_lines a
unfolding limited_lines
limited_lines-full a b (inl size) = limited-full_bytes MOST_RECORDS MOST_BYTES a b size
limited_lines-full a b (inr count) = limited-full_lines MOST_RECORDS MOST_BYTES a b count
