-- One line more is counted.
use Rattle.std.proofs.Common.{◌≡◌, ℕ, ◌+◌, ℤ, ◌+ℤ◌, List, [], ◌∷◌, ◌++◌, length, count_by, cond, refl, sym, ap, ◌∙◌, append-nil, length-append, arith}
use Rattle.std.specs.List.{flat_map}
use Rattle.std.proofs.lemmas.List.Sums.{sum_by_push}
use Rattle.std.proofs.lemmas.Grind.{flat_map-append}
use Rattle.exec_value.specs.declared.outcome.Outcome.{Outcome}
use Rattle.exec_value.specs.Sum.{total}
use Rattle.outcome_lines.specs.Summary.{is_value, is_error, is_stopped, is_out_of_memory, is_bad_record, line_numbers, sum_of}
use Rattle.exec_value.proofs.SumLemmas.{total-append}
use Rattle.line_summary.specs.declared.summary.Summary.{Summary}
use Rattle.line_summary.specs.Counting.{Summarizes, Counts}

-- the sum with one line more
sum_of-push : (outcomes : List Outcome) (outcome : Outcome) → sum_of (outcomes ++ outcome ∷ []) ≡ sum_of outcomes +ℤ total (line_numbers outcome)
sum_of-push outcomes outcome =
    ap total (flat_map-append line_numbers outcomes (outcome ∷ []))
    ∙ total-append (flat_map line_numbers outcomes) (line_numbers outcome ++ [])
    ∙ ap (λ (l : List ℤ). total (flat_map line_numbers outcomes) +ℤ total l) (append-nil (line_numbers outcome))

pub Summarizes-more : {old new : Summary} {outcomes : List Outcome} {outcome : Outcome} → Summarizes old outcomes → Counts old new outcome → Summarizes new (outcomes ++ outcome ∷ [])
Summarizes-more {outcomes = outcomes} {outcome = outcome} counted counts = record {
  lines = omega (arith, counts.lines, counted.lines, length-append outcomes (outcome ∷ []));
  values = omega (arith, counts.values, counted.values, sum_by_push (λ x. cond (is_value x) 1 0) outcomes outcome);
  errors = omega (arith, counts.errors, counted.errors, sum_by_push (λ x. cond (is_error x) 1 0) outcomes outcome);
  stopped = omega (arith, counts.stopped, counted.stopped, sum_by_push (λ x. cond (is_stopped x) 1 0) outcomes outcome);
  no_memory = omega (arith, counts.no_memory, counted.no_memory, sum_by_push (λ x. cond (is_out_of_memory x) 1 0) outcomes outcome);
  bad = omega (arith, counts.bad, counted.bad, sum_by_push (λ x. cond (is_bad_record x) 1 0) outcomes outcome);
  sum = counts.sum ∙ ap (λ s. s +ℤ total (line_numbers outcome)) counted.sum ∙ sym (sum_of-push outcomes outcome);
}
