-- What a status says, by how the run over its records closed.
use Rattle.std.proofs.Common.{◌≡◌, ◌≢◌, ℕ, ◌<◌, ◌≤◌, Bool, true, false, List, [], refl, sym, ap, ◌∙◌, subst, inl, inr, nat_lt, arith}
use Rattle.std.specs.Prelude.{◌==◌, if◌then◌else◌}
use Rattle.std.proofs.lemmas.Bool.{cases_Bool, ltb-true, ltb-false, eqb-true, eqb-false}
use Rattle.exec_io.specs.Causes.{Rose}
use Rattle.exec_value.specs.declared.outcome.Outcome.{Outcome}
use Rattle.exec_io.proofs.PutsLemmas.{AppendsFront-whole}
use Rattle.exec_io.specs.Views.{SourceView, SinkView}
use Rattle.exec_io.specs.Untouched.{IsHandedOn}
use Rattle.line_summary.specs.declared.summary.Summary.{Summary}
use Rattle.plan_shape.specs.Blueprint.{Blueprint}
use Rattle.record_lines.specs.declared.ending.End.{End}
use Rattle.record_lines.specs.declared.ending.End.TheVariants.{Ended, Fault, Limit as LimitEnd}
use Rattle.record_loop.specs.declared.ending.Ending.{Ending}
use Rattle.record_loop.proofs.PrintingLaws.{HoldsAllBut-whole}
use Rattle.whole_run.specs.Endings.{IsUnbegun, Streams}
use Rattle.exec_status.specs.declared.status.Status.{Status}
use Rattle.exec_status.specs.declared.status.Status.TheVariants.{AllValues, NotAllValues, Usage, PlanRefused, NoMemory, ReadFault, WriteFault, Limit}
use Rattle.exec_status.proofs.Concluding.{IsOfRun}
use Rattle.exec_engine.specs.declared.task.Origin.{Origin}
use Rattle.exec_engine.specs.declared.task.Origin.TheVariants.{Source, Generated}
use Rattle.exec_engine.specs.declared.tally.Tally.{Tally}
use Rattle.exec_engine.specs.declared.task.Task.{Task}
use Rattle.exec_engine.specs.Closes.{ClosesRun, Runs}
use Rattle.exec_engine.specs.Opening.{HasPlan}
use Rattle.exec_engine.specs.Says.{AreValues, HasNoMemory, HasFailure, Lines, Prints, PrintsFront, Says}
use Rattle.exec_engine.specs.Statuses.{status_at}
use Rattle.exec_engine.specs.Surroundings.{Surroundings, streams_in}
use Rattle.exec_engine.specs.Taken.{LeavesSource, Takes}

module _ (task : Task) (old new : Surroundings) (tally : Tally) where
  module _ {plan : Blueprint} (has : HasPlan old.shelf.texts task.plan.now plan) (ending : Ending) (closes : ClosesRun plan task (streams_in old) (streams_in new) ending tally) where
    -- the lines of a run, by its end
    abbrev closed-lines : Lines task old new ending.end closes.rest closes.outcomes
    closed-lines = record { plan = plan; has = has; records = closes.records; takes = closes.takes; lawful = closes.lawful }

    -- all that was written, where no write was lost
    closed-prints : (end : End) (P : List Outcome → Type 0) → ending.end ≡ end → ending.lost ≡ false → P closes.outcomes → Prints task old new tally end P
    closed-prints end P is kept holds =
        record {
          outcomes = closes.outcomes;
          lines = record {
            plan = plan;
            has = has;
            records = closes.records;
            takes = subst (λ (e : End). Takes task.origin plan.settings.input old.records new.records e [] closes.records) is
                (subst (λ (r : List ℕ). Takes task.origin plan.settings.input old.records new.records ending.end r closes.records) (closes.all kept) closes.takes);
            lawful = closes.lawful;
          };
          holds = holds;
          whole = closes.finished.wrote.whole kept;
          still = closes.finished.wrote.still kept;
          told = closes.told;
          reads = closes.reads;
        }

    -- a front of it, else
    closed-front : ending.lost ≡ true → PrintsFront task old new tally
    closed-front lost = record {
      end = ending.end;
      rest = closes.rest;
      outcomes = closes.outcomes;
      lines = closed-lines;
      all = λ still. absurd (still (closes.finished.wrote.cause lost));
      front = closes.finished.wrote.part;
      begun = closes.begun;
      whole = λ still. absurd (still (closes.finished.wrote.cause lost));
      cause = λ still is. absurd (still (closes.finished.wrote.cause lost));
      told = closes.told;
      reads = closes.reads;
    }

    -- the lines of records that came to their end, by their numbers
    says-lines : (memory all : Bool) → ending.end ≡ Ended → ending.lost ≡ false → nat_lt 0 ending.summary.no_memory ≡ memory → (ending.summary.values == ending.summary.lines) ≡ all → Says task old new tally (if memory then NoMemory else (if all then AllValues else NotAllValues))
    says-lines true all is kept some values =
        let counted = closes.finished.counted in
        inr (closed-prints Ended HasNoMemory is kept (omega (arith, ltb-true 0 ending.summary.no_memory some, counted.no_memory)))
    says-lines false true is kept some values =
        let counted = closes.finished.counted in
        closed-prints Ended AreValues is kept (sym counted.values ∙ eqb-true ending.summary.values ending.summary.lines values ∙ counted.lines)
    says-lines false false is kept some values =
        let counted = closes.finished.counted in
        let none : ending.summary.no_memory ≡ 0 = omega (arith, ltb-false 0 ending.summary.no_memory some) in
        let other : ending.summary.values ≡ ending.summary.lines → ⊥ = eqb-false ending.summary.values ending.summary.lines values in
        let fewer : ending.summary.values < ending.summary.lines = below ending.summary.values ending.summary.lines ending.summary.few_values other in
        closed-prints Ended HasFailure is kept (sym counted.no_memory ∙ none, omega (arith, fewer, counted.values, counted.lines))
      where
        below : (m n : ℕ) → m ≤ n → (m ≡ n → ⊥) → m < n
        below m n le ne = omega arith

    -- what the status of a run says, by how it closed
    says-by : (lost : Bool) (end : End) → ending.lost ≡ lost → ending.end ≡ end → Says task old new tally (status_at lost end ending.summary)
    says-by true end gone is = inr (closed-front gone)
    says-by false Fault kept is = inr (closed-prints Fault (λ _. Rose old.records.faults new.records.faults) is kept (closes.cause is kept))
    says-by false LimitEnd kept is = closed-prints LimitEnd (λ _. Unit {0}) is kept tt
    says-by false Ended kept is = says-lines (nat_lt 0 ending.summary.no_memory) (ending.summary.values == ending.summary.lines) is kept refl refl

  pub says-run : {plan : Blueprint} (status : Status) → HasPlan old.shelf.texts task.plan.now plan → Runs plan task (streams_in old) (streams_in new) tally status → Says task old new tally status
  says-run status has (inl short) = subst (Says task old new tally) (sym short.is) (inl (short.unbegun, short.uncounted))
  says-run status has (inr done) =
      subst (Says task old new tally) (sym done.2) (says-by has done.0 done.1 done.0.lost done.0.end refl refl)

  -- what a status says of the lines, a write fault on notes says too
  pub says-fault : (status : Status) → Says task old new tally status → Says task old new tally WriteFault
  says-fault status says = fault status says
    where
      front : (end : End) (P : List Outcome → Type 0) (prints : Prints task old new tally end P) → (end ≡ Fault → Rose old.records.faults new.records.faults) → PrintsFront task old new tally
      front end P prints cause = record {
        end = end;
        rest = [];
        outcomes = prints.outcomes;
        lines = prints.lines;
        all = λ _. refl;
        front = AppendsFront-whole prints.whole;
        begun = HoldsAllBut-whole _ prints.outcomes prints.whole;
        whole = λ _. prints.whole;
        cause = λ _. cause;
        told = prints.told;
        reads = prints.reads;
      }

      fault : (status : Status) → Says task old new tally status → Says task old new tally WriteFault
      fault AllValues says = inr (front Ended AreValues says (λ is. cc))
      fault NotAllValues says = inr (front Ended HasFailure says (λ is. cc))
      fault Usage says = absurd says
      fault PlanRefused says = inl says.1
      fault NoMemory (inl untouched) = inl untouched
      fault NoMemory (inr prints) = inr (front Ended HasNoMemory prints (λ is. cc))
      fault ReadFault (inl untouched) = inl untouched
      fault ReadFault (inr prints) = inr (front Fault (λ _. Rose old.records.faults new.records.faults) prints (λ _. prints.holds))
      fault WriteFault says = says
      fault Limit says = inr (front LimitEnd (λ _. Unit {0}) says (λ is. cc))

-- a source that is as it was is left
pub same-leaves : (origin : Origin) (before after : Streams) → IsUnbegun before after → LeavesSource origin before after
same-leaves (Source form) before after same = tt
same-leaves (Generated count) before after same = record { source_same = same.untouched.source_same; reads_same = same.unread }

-- a status by how a run closed has a property that all of these have
by-ending : (P : Status → Type 0) (lost : Bool) (end : End) (summary : Summary) → (lost ≡ true → P WriteFault) → (lost ≡ false → end ≡ Fault → P ReadFault) → P Limit → P NoMemory → P AllValues → P NotAllValues → P (status_at lost end summary)
by-ending P true end summary write read limit memory all some = write refl
by-ending P false Fault summary write read limit memory all some = read refl refl
by-ending P false LimitEnd summary write read limit memory all some = limit
by-ending P false Ended summary write read limit memory all some =
    lines (nat_lt 0 summary.no_memory) (summary.values == summary.lines)
  where
    lines : (a b : Bool) → P (if a then NoMemory else (if b then AllValues else NotAllValues))
    lines true b = memory
    lines false true = all
    lines false false = some

-- where no fault is answered none of the source's or out's calls failed
not-write : (X : Type 0) (lost : Bool) (end : End) (summary : Summary) → (lost ≡ false → X) → status_at lost end summary ≢ WriteFault → X
not-write X true end summary kept other = absurd (other refl)
not-write X false end summary kept other = kept refl

not-fault : (X : Type 0) (lost : Bool) (end : End) (summary : Summary) → (end ≢ Fault → X) → status_at lost end summary ≢ ReadFault → status_at lost end summary ≢ WriteFault → X
not-fault X true end summary still read write = absurd (write refl)
not-fault X false Fault summary still read write = absurd (read refl)
not-fault X false LimitEnd summary still read write = still (λ e. cc)
not-fault X false Ended summary still read write = still (λ e. cc)

module _ {plan : Blueprint} {task : Task} {before after : Streams} {tally : Tally} where
  by-run : (P : Status → Type 0) (status : Status) (runs : Runs plan task before after tally status) → (Rose before.sink.faults after.sink.faults → P WriteFault) → (Rose before.source.faults after.source.faults → P ReadFault) → P Limit → P NoMemory → P AllValues → P NotAllValues → P status
  by-run P status (inl short) write read limit memory all some = subst P (sym short.is) memory
  by-run P status (inr done) write read limit memory all some =
      subst P (sym done.2) (by-ending P done.0.lost done.0.end done.0.summary (λ lost. write (done.1.finished.wrote.cause lost)) (λ kept is. read (done.1.cause is kept)) limit memory all some)

  -- a run is no fault of usage, and no refusal
  pub run-is : (status : Status) → Runs plan task before after tally status → IsOfRun status
  run-is status runs = by-run IsOfRun status runs (λ _. tt) (λ _. tt) tt tt tt tt

  -- a fault has its cause
  pub run-write : (status : Status) → Runs plan task before after tally status → status ≡ WriteFault → Rose before.sink.faults after.sink.faults
  run-write status runs = by-run (λ s. s ≡ WriteFault → Rose before.sink.faults after.sink.faults) status runs
      (λ rose _. rose) (λ _ e. cc) (λ e. cc) (λ e. cc) (λ e. cc) (λ e. cc)

  pub run-read : (status : Status) → Runs plan task before after tally status → status ≡ ReadFault → Rose before.source.faults after.source.faults
  run-read status runs = by-run (λ s. s ≡ ReadFault → Rose before.source.faults after.source.faults) status runs
      (λ _ e. cc) (λ rose _. rose) (λ e. cc) (λ e. cc) (λ e. cc) (λ e. cc)

  pub run-out_still : (status : Status) → Runs plan task before after tally status → status ≢ WriteFault → after.sink.faults ≡ before.sink.faults
  run-out_still status (inl short) other = ap (λ (s : SinkView). s.faults) short.unbegun.untouched.sink_same
  run-out_still status (inr done) other =
      not-write (after.sink.faults ≡ before.sink.faults) done.0.lost done.0.end done.0.summary done.1.finished.wrote.still (λ e. other (done.2 ∙ e))

  pub run-records_still : (status : Status) → Runs plan task before after tally status → status ≢ ReadFault → status ≢ WriteFault → after.source.faults ≡ before.source.faults
  run-records_still status (inl short) read write = ap (λ (s : SourceView). s.faults) short.unbegun.untouched.source_same
  run-records_still status (inr done) read write =
      not-fault (after.source.faults ≡ before.source.faults) done.0.lost done.0.end done.0.summary done.1.still (λ e. read (done.2 ∙ e)) (λ e. write (done.2 ∙ e))

  pub run-handed : (status : Status) → Runs plan task before after tally status → ¬ Rose before.sink.faults after.sink.faults → IsHandedOn before.sink after.sink
  run-handed status (inl short) still = inr short.unbegun.untouched.sink_same
  run-handed status (inr done) still =
      elim (cases_Bool done.0.lost) [
        | inl lost ↦ absurd (still (done.1.finished.wrote.cause lost))
        | inr kept ↦ done.1.finished.wrote.handed_on kept refl
      ]

  pub run-out_later : (status : Status) → Runs plan task before after tally status → before.sink.faults ≤ after.sink.faults
  run-out_later status (inl short) = omega (arith, ap (λ (s : SinkView). s.faults) short.unbegun.untouched.sink_same)
  run-out_later status (inr done) = done.1.finished.wrote.later

  pub run-records_later : (status : Status) → Runs plan task before after tally status → before.source.faults ≤ after.source.faults
  run-records_later status (inl short) = omega (arith, ap (λ (s : SourceView). s.faults) short.unbegun.untouched.source_same)
  run-records_later status (inr done) = done.1.later

  pub run-leaves : (status : Status) → Runs plan task before after tally status → LeavesSource task.origin before after
  run-leaves status (inl short) = same-leaves task.origin before after short.unbegun
  run-leaves status (inr done) = done.1.leaves
