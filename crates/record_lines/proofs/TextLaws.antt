-- The laws of the text of a line.
use Rattle.std.proofs.Common.{◌≡◌, ℕ, ◌+◌, ◌-◌, ◌<◌, ◌≤◌, ◌==◌, List, None, length, take, slice_index, arith}
use Rattle.std.proofs.lemmas.Bool.{lt-leb, cond_both}
use Rattle.std.proofs.lemmas.List.{length-take-le}
use Rattle.record_lines.specs.declared.limits.TheConstants.{CARRIAGE_RETURN, MOST_LINE}
use Rattle.record_lines.specs.Lines.{without_cr, text_of}

-- a line loses one byte at most with its carriage return
pub length-without_cr : (line : List ℕ) → length line ≤ length (without_cr line) + 1
unfolding without_cr
length-without_cr line =
    let P : List ℕ → Type 0 = λ text. length line ≤ length text + 1 in
    cond_both (slice_index line (length line - 1) == CARRIAGE_RETURN) (take (length line - 1) line) line P
    (λ _. omega (arith, length-take-le (length line - 1) line (omega arith)))
    (λ _. omega arith)

-- a line that is too long has none
pub text_of-long : (line : List ℕ) → MOST_LINE < length line → text_of line ≡ None
unfolding text_of
text_of-long line long = (rw (lt-leb (length line) MOST_LINE long))
