-- Lines that are lawful for the parts of a stream are lawful for the stream.
use Rattle.std.specs.Prelude.{◌≡◌, ◌≢◌, ℕ, ◌<◌, false, List, length, None, Some, slice_get}
use Rattle.std.specs.List.{AllZip}
use Rattle.exec_value.specs.declared.data.Datum.{Datum}
use Rattle.exec_value.specs.declared.outcome.Completion.{Completion}
use Rattle.exec_value.specs.declared.outcome.Outcome.{Outcome}
use Rattle.part_lines.specs.Streams.{AreDealt, in_order}
use Rattle.plan_rules.specs.declared.node.Node.TheVariants.{ReadEnv}
use Rattle.plan_rules.specs.declared.node.Query.TheVariants.{Record}
use Rattle.plan_rules.specs.declared.stop.StopState.{StopState}
use Rattle.plan_shape.specs.Blueprint.{Blueprint}
use Rattle.line_rules.specs.Lawful.{Lawful, Terms}
use Rattle.line_rules.specs.PlanTerms.{AllowsRecord}

-- Streams of a plan's records may be cut into parts: it requests no stop, and what it allows a
-- record doesn't depend on its number, as it does where it reads `record` of the environment.
pub record MayBeCut (plan : Blueprint) : Type 0 where
  pub after : plan.settings.stop_after ≡ None
  pub on_error : plan.settings.on_error_stop ≡ false
  pub any_number : (number other : ℕ) (datum : Datum) (stop : StopState) (completion : Completion)
      → AllowsRecord plan number datum stop completion →
      AllowsRecord plan other datum stop completion

-- A plan that requests no stop and asks no environment for the record's number.
pub record RequestsNothing (plan : Blueprint) : Type 0 where
  pub after : plan.settings.stop_after ≡ None
  pub on_error : plan.settings.on_error_stop ≡ false
  pub no_number : (n : ℕ) → slice_get plan.nodes n ≢ Some (ReadEnv Record)

-- Where each part's lines are lawful for its records, the lines of parts that follow each other are
-- lawful for their records.
abbrev pub PartsJoin : Terms → Type 0
PartsJoin terms =
    (records : List (List (List ℕ))) (outcomes : List (List Outcome))
    → AllZip (Lawful terms) records outcomes → Lawful terms (in_order records) (in_order outcomes)

-- The same, where the records of a stream were dealt to parts in turn, and one part is there.
abbrev pub DealtPartsJoin : Terms → Type 0
DealtPartsJoin terms =
    (records : List (List (List ℕ))) (outcomes : List (List Outcome))
    (every : List (List ℕ)) (all : List Outcome)
    → 0 < length records → AllZip (Lawful terms) records outcomes
    → AreDealt records every → AreDealt outcomes all → Lawful terms every all
