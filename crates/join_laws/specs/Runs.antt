-- What is joined of what runs over the parts of a stream wrote.
use Rattle.std.specs.Prelude.{◌≡◌, ℕ, ◌<◌, ◌≤◌, true, false, List, [], ◌∷◌, length, count_by, All, Some}
use Rattle.std.specs.Borrow.{Bor}
use Rattle.exec_io.specs.Shelves.{Texts, text_of}
use Rattle.exec_io.specs.Views.{SinkView}
use Rattle.exec_status.specs.declared.status.Status.{Status}
use Rattle.exec_status.specs.Sinks.{TellsAll}
use Rattle.exec_value.specs.declared.outcome.Outcome.{Outcome}
use Rattle.join_commands.specs.Joins.{JoinsLines, asked_for}
use Rattle.join_commands.specs.Parts.{out_name}
use Rattle.join_commands.specs.Statuses.{counts_status}
use Rattle.line_rules.specs.Lawful.{Lawful, Terms}
use Rattle.outcome_lines.specs.Line.{text_from}
use Rattle.outcome_lines.specs.Summary.{is_value, is_out_of_memory}
use Rattle.part_lines.specs.declared.limits.TheConstants.{MOST_LINES}
use Rattle.part_lines.specs.Outcomes.{IsWritable}
use Rattle.part_lines.specs.Streams.{AreDealt, in_order}

-- The file of the part of this name is the text of outcomes that are lawful for these records.
pub record HoldsRun (terms : Terms) (texts : Texts) (name : List ℕ) (records : List (List ℕ))
    (outcomes : List Outcome) : Type 0 where
  pub text : text_of texts (out_name name) ≡ Some (text_from 1 outcomes)
  pub lawful : Lawful terms records outcomes
  pub writable : All IsWritable outcomes
  pub few : length outcomes ≤ MOST_LINES

-- The same of the part of each name.
abbrev pub HoldRuns : Terms → Texts → List (Bor (List ℕ)) → List (List (List ℕ)) →
    List (List Outcome) → Type 0
HoldRuns terms texts [] [] [] = Unit {0}
HoldRuns terms texts (name ∷ names) (part ∷ records) (said ∷ outcomes) =
    HoldsRun terms texts name.now part said × HoldRuns terms texts names records outcomes
HoldRuns terms texts names records outcomes = ⊥

-- The text of outcomes that are lawful for these records was written and handed on, and this is the
-- status of a run that wrote it.
pub record WritesRun (terms : Terms) (old new : SinkView) (status : Status)
    (records : List (List ℕ)) (outcomes : List Outcome) : Type 0 where
  pub lawful : Lawful terms records outcomes
  pub told : TellsAll old new (text_from 1 outcomes)
  pub status_is : status ≡ counts_status (length outcomes) (count_by is_value outcomes)
      (count_by is_out_of_memory outcomes)

-- What is joined of parts that follow each other is what one run over their records may write.
abbrev pub RunsJoin : Terms → Type 0
RunsJoin terms =
    (texts : Texts) (names : List (Bor (List ℕ))) (records : List (List (List ℕ)))
    (outcomes : List (List Outcome)) (old new : SinkView) (status : Status)
    → HoldRuns terms texts names records outcomes
    → JoinsLines texts (asked_for false) names old new status
    → WritesRun terms old new status (in_order records) (in_order outcomes)

-- The same of parts to which the records of a stream were dealt in turn, and one part is there.
abbrev pub DealtRunsJoin : Terms → Type 0
DealtRunsJoin terms =
    (texts : Texts) (names : List (Bor (List ℕ))) (records : List (List (List ℕ)))
    (outcomes : List (List Outcome)) (every : List (List ℕ)) (old new : SinkView) (status : Status)
    → 0 < length names → HoldRuns terms texts names records outcomes → AreDealt records every
    → JoinsLines texts (asked_for true) names old new status
    → (all : List Outcome) × AreDealt outcomes all × WritesRun terms old new status every all
