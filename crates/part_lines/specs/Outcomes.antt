-- The lines of outcomes are lines of a part.
use Rattle.std.specs.Prelude.{◌≡◌, ℕ, ◌≤◌, List, length, map, count_by, All}
use Rattle.exec_value.specs.declared.outcome.Outcome.{Outcome}
use Rattle.outcome_lines.specs.Line.{outcome_words, text_from}
use Rattle.outcome_lines.specs.OneToOne.{IsNamed}
use Rattle.outcome_lines.specs.Summary.{is_value, is_out_of_memory}
use Rattle.part_lines.specs.declared.limits.TheConstants.{MOST_LINES, MOST_WORDS}
use Rattle.part_lines.specs.Lines.{IsPartText, lines_from}
use Rattle.part_lines.specs.Tallies.{says_value, says_no_memory}

-- An outcome that a program can hold, whose error has an error name, and whose line isn't too long.
pub record IsWritable (outcome : Outcome) : Type 0 where
  pub named : IsNamed outcome
  pub short : length (outcome_words outcome) ≤ MOST_WORDS

-- What the lines of outcomes say.
abbrev pub outcomes_words : List Outcome → List (List ℕ)
outcomes_words outcomes = map outcome_words outcomes

-- The text of outcomes is a part.
abbrev pub OutcomesArePart : Type 0
OutcomesArePart =
    (outcomes : List Outcome) → All IsWritable outcomes → length outcomes ≤ MOST_LINES
    → IsPartText (text_from 1 outcomes) (outcomes_words outcomes)

-- Under any number, the lines of what outcomes say are the text of the outcomes.
abbrev pub LinesAreText : Type 0
LinesAreText =
    (number : ℕ) (outcomes : List Outcome)
    → lines_from number (outcomes_words outcomes) ≡ text_from number outcomes

-- As many of them say a value as are values, and as many say that there was no memory.
pub record CountsAgree (outcomes : List Outcome) : Type 0 where
  pub values : count_by says_value (outcomes_words outcomes) ≡ count_by is_value outcomes
  pub no_memory :
      count_by says_no_memory (outcomes_words outcomes) ≡ count_by is_out_of_memory outcomes
