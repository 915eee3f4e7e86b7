-- What is joined of runs over parts that follow each other is what one run may write.
use Rattle.std.proofs.Common.{◌≡◌, ℕ, suc, List, [], ◌∷◌, ◌++◌, length, map, Some, refl, sym, ap, ◌∙◌, subst}
use Rattle.std.specs.Prelude.{All, count_by}
use Rattle.std.specs.Borrow.{Bor}
use Rattle.std.specs.List.{AllZip}
use Rattle.std.proofs.lemmas.List.{map-append}
use Rattle.std.proofs.lemmas.List.Elements.{All-append, All-nil}
use Rattle.exec_io.specs.Shelves.{Texts, text_of}
use Rattle.exec_io.specs.Views.{SinkView}
use Rattle.exec_status.specs.declared.status.Status.{Status}
use Rattle.exec_status.specs.Sinks.{TellsAll}
use Rattle.exec_value.specs.declared.outcome.Outcome.{Outcome}
use Rattle.outcome_lines.specs.Line.{outcome_words, text_from}
use Rattle.outcome_lines.specs.Summary.{is_value, is_out_of_memory}
use Rattle.part_lines.specs.Lines.{lines_from, IsPartText}
use Rattle.part_lines.specs.Outcomes.{IsWritable, outcomes_words}
use Rattle.part_lines.specs.Streams.{in_order}
use Rattle.part_lines.specs.Tallies.{says_value, says_no_memory}
use Rattle.part_lines.proofs.OneReading.{one_reading}
use Rattle.part_lines.proofs.OutcomeLaws.{counts_agree, lines_are_text, outcomes_are_part}
use Rattle.plan_shape.specs.Blueprint.{Blueprint}
use Rattle.line_rules.specs.Lawful.{Lawful, Terms}
use Rattle.line_rules.specs.PlanTerms.{terms_of}
use Rattle.join_commands.specs.Joins.{AreWhole}
use Rattle.join_commands.specs.Parts.{out_name}
use Rattle.join_commands.specs.Statuses.{counts_status, lines_status}
use Rattle.join_laws.specs.Joined.{MayBeCut}
use Rattle.join_laws.specs.Runs.{HoldRuns, HoldsRun, RunsJoin, WritesRun}
use Rattle.join_laws.proofs.JoinLaws.{parts_join}

pub words_many : (outcomes : List Outcome) → length (outcomes_words outcomes) ≡ length outcomes
words_many [] = refl
words_many (outcome ∷ outcomes) = ap (λ n. suc n) (words_many outcomes)

abbrev pub part_words : List (List Outcome) → List (List (List ℕ))
part_words outcomes = map outcomes_words outcomes

module _ (terms : Terms) (texts : Texts) where
  -- the lines of a part that is whole are those of its run
  one_known : (name : List ℕ) (records : List (List ℕ)) (outcomes : List Outcome) (text : List ℕ) (said : List (List ℕ)) → HoldsRun terms texts name records outcomes
      → text_of texts (out_name name) ≡ Some text → IsPartText text said → said ≡ outcomes_words outcomes
  one_known name records outcomes text said run is part =
      let same : text ≡ text_from 1 outcomes = text_same text (text_from 1 outcomes) (sym is ∙ run.text) in
      one_reading text said (outcomes_words outcomes) part
      (subst (λ (t : List ℕ). IsPartText t (outcomes_words outcomes)) (sym same) (outcomes_are_part outcomes run.writable run.few))
    where
      text_same : (x y : List ℕ) → Some x ≡ Some y → x ≡ y
      text_same x y e = cc

  pub parts_known : (names : List (Bor (List ℕ))) (records : List (List (List ℕ))) (outcomes : List (List Outcome)) (parts : List (List (List ℕ)))
      → HoldRuns terms texts names records outcomes → AreWhole texts names parts → parts ≡ part_words outcomes
  parts_known [] [] [] [] runs whole = refl
  parts_known [] [] [] (part ∷ parts) runs whole = absurd whole
  parts_known [] [] (said ∷ outcomes) parts runs whole = absurd runs
  parts_known [] (lines ∷ records) outcomes parts runs whole = absurd runs
  parts_known (name ∷ names) [] outcomes parts runs whole = absurd runs
  parts_known (name ∷ names) (lines ∷ records) [] parts runs whole = absurd runs
  parts_known (name ∷ names) (lines ∷ records) (said ∷ outcomes) [] runs whole = absurd whole
  parts_known (name ∷ names) (lines ∷ records) (said ∷ outcomes) (part ∷ parts) runs whole =
      let holds = whole.0.lines in
      let first : part ≡ outcomes_words said = one_known name.now lines said holds.0 part runs.0 holds.1 holds.2 in
      let rest : parts ≡ map outcomes_words outcomes = parts_known names records outcomes parts runs.1 whole.1 in
      cc

  pub lawful_each : (names : List (Bor (List ℕ))) (records : List (List (List ℕ))) (outcomes : List (List Outcome)) → HoldRuns terms texts names records outcomes
      → AllZip (Lawful terms) records outcomes
  lawful_each [] [] [] runs = tt
  lawful_each [] [] (said ∷ outcomes) runs = absurd runs
  lawful_each [] (lines ∷ records) outcomes runs = absurd runs
  lawful_each (name ∷ names) [] outcomes runs = absurd runs
  lawful_each (name ∷ names) (lines ∷ records) [] runs = absurd runs
  lawful_each (name ∷ names) (lines ∷ records) (said ∷ outcomes) runs = (runs.0.lawful, lawful_each names records outcomes runs.1)

  -- all outcomes are writable
  pub writable_each : (names : List (Bor (List ℕ))) (records : List (List (List ℕ))) (outcomes : List (List Outcome)) → HoldRuns terms texts names records outcomes
      → All IsWritable (in_order outcomes)
  writable_each [] [] [] runs = All-nil IsWritable
  writable_each [] [] (said ∷ outcomes) runs = absurd runs
  writable_each [] (lines ∷ records) outcomes runs = absurd runs
  writable_each (name ∷ names) [] outcomes runs = absurd runs
  writable_each (name ∷ names) (lines ∷ records) [] runs = absurd runs
  writable_each (name ∷ names) (lines ∷ records) (said ∷ outcomes) runs =
      All-append IsWritable said (in_order outcomes) runs.0.writable (writable_each names records outcomes runs.1)

-- what outcomes of parts say is what those of all say
order_words : (outcomes : List (List Outcome)) → in_order (part_words outcomes) ≡ outcomes_words (in_order outcomes)
order_words [] = refl
order_words (said ∷ outcomes) =
    ap (λ (l : List (List ℕ)). outcomes_words said ++ l) (order_words outcomes) ∙ sym (map-append outcome_words said (in_order outcomes))

-- the status of a run by its outcomes
pub status_same : (outcomes : List Outcome) → All IsWritable outcomes
    → lines_status (outcomes_words outcomes) ≡ counts_status (length outcomes) (count_by is_value outcomes) (count_by is_out_of_memory outcomes)
status_same outcomes writable =
    let agree = counts_agree outcomes writable in
    ap (λ n. counts_status n (count_by says_value (outcomes_words outcomes)) (count_by says_no_memory (outcomes_words outcomes))) (words_many outcomes)
    ∙ (ap (λ n. counts_status (length outcomes) n (count_by says_no_memory (outcomes_words outcomes))) agree.values
    ∙ ap (λ n. counts_status (length outcomes) (count_by is_value outcomes) n) agree.no_memory)

-- what was written of lines that outcomes say
pub writes : (terms : Terms) (old new : SinkView) (status : Status) (records : List (List ℕ)) (outcomes : List Outcome) (lines : List (List ℕ)) → Lawful terms records outcomes → All IsWritable outcomes
    → lines ≡ outcomes_words outcomes → TellsAll old new (lines_from 1 lines) → status ≡ lines_status lines → WritesRun terms old new status records outcomes
writes terms old new status records outcomes lines lawful writable same told is = record {
  lawful = lawful;
  told = subst (TellsAll old new) (ap (lines_from 1) same ∙ lines_are_text 1 outcomes) told;
  status_is = is ∙ (ap lines_status same ∙ status_same outcomes writable);
}

module _ (WantsMemory : Blueprint → Type 0) (plan : Blueprint) (window : ℕ) (cut : MayBeCut plan) where
  pub runs_join : RunsJoin (terms_of WantsMemory plan window)
  runs_join texts names records outcomes old new status runs joins =
      let terms : Terms = terms_of WantsMemory plan window in
      writes terms old new status (in_order records) (in_order outcomes) joins.lines
      (parts_join WantsMemory plan window cut records outcomes (lawful_each terms texts names records outcomes runs))
      (writable_each terms texts names records outcomes runs)
      (joins.joined ∙ (ap (λ (l : List (List (List ℕ))). in_order l) (parts_known terms texts names records outcomes joins.parts runs joins.whole) ∙ order_words outcomes))
      joins.told joins.status_is
