-- The two halves of a word: the generation at which it was written, and what it says.
use Rattle.std.specs.Prelude.{ℕ, ◌+◌, ◌*◌, ◌/◌, ◌%◌, ◌^◌, Bool, if◌then◌else◌}

abbrev pub stamp_of : ℕ → ℕ
stamp_of w = w / 2 ^ 32

abbrev pub code_of : ℕ → ℕ
code_of w = w % 2 ^ 32

-- the word of these halves
abbrev pub packed : ℕ → ℕ → ℕ
packed generation code = generation * 2 ^ 32 + code

-- a bit as a number
abbrev pub bit : Bool → ℕ
bit b = if b then 1 else 0
