-- What parts hold of the items of a stream: its records, lines or outcomes.
use Rattle.std.specs.Prelude.{◌≡◌, ℕ, ◌+◌, ◌*◌, List, length, slice_get, Some}
use Rattle.std.specs.List.{flat_map}

-- The items of parts that follow each other.
abbrev pub in_order : {A : Type 0} → List (List A) → List A
in_order parts = flat_map (λ part. part) parts

-- Items that were dealt in turn: the item of each round of a part stands among all items behind
-- those of the rounds before and of the parts before. Where one isn't there, the other isn't
-- either.
pub record AreDealt {A : Type 0} (parts : List (List A)) (all : List A) : Type 0 where
  pub each : (at round : ℕ) (part : List A) → slice_get parts at ≡ Some part
      → slice_get part round ≡ slice_get all (round * length parts + at)
