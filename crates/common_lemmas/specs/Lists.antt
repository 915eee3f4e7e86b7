-- Lists of numbers.
use Rattle.std.specs.Prelude.{ℕ, Bool, true, not, ◌&&◌, ◌==◌, List, [], ◌∷◌}
use Rattle.std.specs.List.{list_any}

-- no two of the numbers are equal
abbrev pub are_different : List ℕ → Bool
are_different [] = true
are_different (n ∷ ns) = not (list_any (λ m. m == n) ns) && are_different ns
