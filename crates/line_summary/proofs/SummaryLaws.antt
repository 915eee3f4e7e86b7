-- The text of a summary is the summary of what it counted.
use Rattle.std.proofs.Common.{◌≡◌, ℕ, ℤ, List, [], ◌∷◌, ◌++◌, length, count_by, codes, decimal, refl, sym, ap, ◌∙◌}
use Rattle.std.specs.Fmt.{signed_decimal}
use Rattle.exec_value.specs.Bytes.{line_feed}
use Rattle.exec_value.specs.declared.outcome.Outcome.{Outcome}
use Rattle.outcome_lines.specs.Summary.{is_value, is_error, is_stopped, is_out_of_memory, is_bad_record, sum_of, summary_of}
use Rattle.line_summary.specs.declared.summary.Summary.{Summary}
use Rattle.line_summary.specs.SummaryText.{text_of}
use Rattle.line_summary.specs.Counting.{Summarizes}

-- the line of these numbers
line_text : (lines values errors stopped no_memory bad : ℕ) (sum : ℤ) → List ℕ
line_text lines values errors stopped no_memory bad sum =
    codes "records " ++ decimal lines ++ codes " values " ++ decimal values ++ codes " errors " ++ decimal errors
    ++ codes " stopped " ++ decimal stopped ++ codes " out-of-memory " ++ decimal no_memory ++ codes " bad " ++ decimal bad
    ++ codes " sum " ++ signed_decimal sum ++ line_feed ∷ []

-- the text of a summary is the line of its numbers
of_summary : (t : Summary) → text_of t ≡ line_text t.lines t.values t.errors t.stopped t.no_memory t.bad t.sum
unfolding line_text
of_summary t = refl

-- and so is the summary of outcomes
of_outcomes : (outcomes : List Outcome) → line_text (length outcomes) (count_by is_value outcomes) (count_by is_error outcomes) (count_by is_stopped outcomes) (count_by is_out_of_memory outcomes) (count_by is_bad_record outcomes) (sum_of outcomes) ≡ summary_of outcomes
unfolding line_text summary_of
of_outcomes outcomes = refl

pub summary-text : (summary : Summary) (outcomes : List Outcome) → Summarizes summary outcomes → text_of summary ≡ summary_of outcomes
summary-text summary outcomes counted =
    of_summary summary
    ∙ alike counted.lines counted.values counted.errors counted.stopped counted.no_memory counted.bad counted.sum
    ∙ of_outcomes outcomes
  where
    alike : {a a' b b' c c' d d' e e' f f' : ℕ} {z z' : ℤ} → a ≡ a' → b ≡ b' → c ≡ c' → d ≡ d' → e ≡ e' → f ≡ f' → z ≡ z' → line_text a b c d e f z ≡ line_text a' b' c' d' e' f' z'
    alike p q r s t u v = cc
