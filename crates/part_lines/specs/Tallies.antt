-- How many lines of which sorts a part has.
use Rattle.std.specs.Prelude.{◌≡◌, ℕ, Bool, true, false, List, length, count_by, Option, Some}
use Rattle.part_lines.specs.declared.sort.Sort.{Sort}
use Rattle.part_lines.specs.declared.sort.Sort.TheVariants.{Value, NoMemory}
use Rattle.part_lines.specs.declared.tally.Tally.{Tally}
use Rattle.part_lines.specs.Lines.{IsPartText}
use Rattle.part_lines.specs.Sorts.{sort_of}

-- The sort of a value, and that of a record for which there was no memory.
abbrev pub is_value_sort : Option Sort → Bool
is_value_sort (Some Value) = true
is_value_sort _ = false

abbrev pub is_no_memory_sort : Option Sort → Bool
is_no_memory_sort (Some NoMemory) = true
is_no_memory_sort _ = false

-- The words of a value, and those of a record for which there was no memory.
abbrev pub says_value : List ℕ → Bool
says_value words = is_value_sort (sort_of words)

abbrev pub says_no_memory : List ℕ → Bool
says_no_memory words = is_no_memory_sort (sort_of words)

-- The tally has counted these lines.
pub record Tallies (tally : Tally) (said : List (List ℕ)) : Type 0 where
  pub lines : tally.lines ≡ length said
  pub values : tally.values ≡ count_by says_value said
  pub no_memory : tally.no_memory ≡ count_by says_no_memory said

-- The text is a part, whose lines the tally has counted.
abbrev pub HoldsTallied : List ℕ → Tally → Type 0
HoldsTallied text tally = (said : List (List ℕ)) × IsPartText text said × Tallies tally said
