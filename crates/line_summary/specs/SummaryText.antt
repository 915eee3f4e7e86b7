-- The text of a summary, part by part.
use Rattle.std.specs.Prelude.{ℕ, List, [], ◌∷◌, ◌++◌, codes, decimal}
use Rattle.std.specs.Fmt.{signed_decimal}
use Rattle.exec_value.specs.Bytes.{line_feed}
use Rattle.line_summary.specs.declared.summary.Summary.{Summary}

-- the first two counts: how many lines there are, and how many values
abbrev pub two_counts : Summary → List ℕ
two_counts summary =
    codes "records " ++ decimal summary.lines ++ codes " values " ++ decimal summary.values

-- the first four, with the errors and the stopped lines
abbrev pub four_counts : Summary → List ℕ
four_counts summary =
    two_counts summary ++ codes " errors " ++ decimal summary.errors ++ codes " stopped "
    ++ decimal summary.stopped

-- all six, with the lines that are out-of-memory or bad records
abbrev pub six_counts : Summary → List ℕ
six_counts summary =
    four_counts summary ++ codes " out-of-memory " ++ decimal summary.no_memory ++ codes " bad "
    ++ decimal summary.bad

-- with the sum: the whole line
abbrev pub text_of : Summary → List ℕ
text_of summary = six_counts summary ++ codes " sum " ++ signed_decimal summary.sum
    ++ line_feed ∷ []
