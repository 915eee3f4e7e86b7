-- How the numbers of a row are kept.
use Rattle.std.specs.Prelude.{ℤ, List, [], ◌∷◌}
use Rattle.std.specs.Arc.{arc_slice_items}
use Rattle.exec_value.specs.declared.nums.Row.{Row}
use Rattle.exec_value.specs.declared.nums.Row.TheVariants.{One, Shared}

-- the numbers
abbrev pub row_numbers : Row → List ℤ
row_numbers (One number) = number ∷ []
row_numbers (Shared numbers) = arc_slice_items numbers
