-- Generated records, and the bytes that show them.
use Rattle.std.specs.Prelude.{ℕ, zero, suc, ◌+◌, ◌*◌, ◌%◌, List, [], ◌∷◌, ◌++◌, drop, flat_map, Some, codes, decimal}
use Rattle.exec_io.specs.Views.{SourceView}
use Rattle.exec_value.specs.declared.kinds.Kind.{Kind}
use Rattle.exec_value.specs.declared.kinds.Kind.TheVariants.{Row}
use Rattle.record_lines.specs.declared.limits.TheConstants.{LINE_FEED}

-- The number that record i shows.
abbrev pub generated : ℕ → ℕ
generated i = (7919 * i + 17) % 100003

-- The line of a number as a record of this kind.
abbrev pub shown_as : Kind → ℕ → List ℕ
shown_as Row x = codes "[" ++ decimal x ++ codes "]"
shown_as kind x = decimal x

-- The lines of the first records.
abbrev pub generated_lines : Kind → ℕ → List (List ℕ)
generated_lines kind zero = []
generated_lines kind (suc n) = generated_lines kind n ++ shown_as kind (generated (suc n)) ∷ []

-- Lines one after another, each ended by a line feed.
abbrev pub ended_lines : List (List ℕ) → List ℕ
ended_lines lines = flat_map (λ line. line ++ LINE_FEED ∷ []) lines

-- The bytes of the first records: their lines, each ended by a line feed.
abbrev pub generated_text : Kind → ℕ → List ℕ
generated_text kind count = ended_lines (generated_lines kind count)

-- The bytes of the records that come after the first ones.
abbrev pub text_after : ℕ → Kind → ℕ → List ℕ
text_after first kind count = ended_lines (drop first (generated_lines kind count))

-- What a source tells that has these bytes left and never fails.
abbrev pub steady_view : List ℕ → SourceView
steady_view left = record { left = Some left; faults = 0 }
