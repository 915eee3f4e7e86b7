-- The line of a value of one int.
use Rattle.std.proofs.Common.{◌≡◌, ℕ, ℤ, List, [], ◌∷◌, ◌++◌, codes, ap, ◌∙◌, append_assoc, append-nil}
use Rattle.std.specs.Fmt.{decimal, signed_decimal}
use Rattle.exec_value.specs.Bytes.{line_feed}
use Rattle.exec_value.specs.declared.data.Datum.TheVariants.{Int}
use Rattle.exec_value.specs.declared.outcome.Completion.TheVariants.{Value}
use Rattle.exec_value.specs.declared.outcome.Outcome.TheVariants.{Done}
use Rattle.outcome_lines.specs.Line.{text_of, line_of}

-- the parts of the line, as they are written from its end
pub line_of-int : (number : ℕ) (value : ℤ) → line_of number (Done (Value (Int value ∷ []))) ≡ decimal number ++ (codes " value " ++ (signed_decimal value ++ line_feed ∷ []))
unfolding line_of text_of
line_of-int number value =
    append_assoc (decimal number) (codes " value " ++ (signed_decimal value ++ [])) (line_feed ∷ [])
    ∙ ap (λ (l : List ℕ). decimal number ++ (codes " value " ++ (l ++ line_feed ∷ []))) (append-nil (signed_decimal value))
