-- How a run of a task closes, by what the loop over its records did.
use Rattle.std.proofs.Common.{◌≡◌, ◌≢◌, ℕ, ◌+◌, ◌-◌, ◌^◌, ◌≤◌, min, Bool, true, false, List, [], ◌++◌, Option, None, Some, refl, sym, ap, ◌∙◌, subst, inl, inr, append-nil, arith}
use Rattle.std.specs.Prelude.{Result, Ok, Err, IfOk, OnErr}
use Rattle.std.specs.declared.alloc.AllocError.{AllocError}
use Rattle.std.specs.Io.KnownBytes.{Consumes, IsAtEnd}
use Rattle.exec_io.specs.Causes.{Rose}
use Rattle.exec_io.specs.Views.{SourceView, SinkView}
use Rattle.exec_value.specs.declared.kinds.Kind.{Kind}
use Rattle.exec_value.specs.declared.outcome.Outcome.{Outcome}
use Rattle.exec_words.specs.declared.number.TheConstants.{MOST_WORKERS}
use Rattle.home_items.specs.declared.entry.Entry.{Entry}
use Rattle.home_items.specs.declared.item.Item.{Item}
use Rattle.line_summary.specs.Counting.{Summarizes}
use Rattle.steal_pool.specs.Arrangements.{HasGiven}
use Rattle.steal_pool.specs.declared.given.Given.{Given}
use Rattle.table_steps.specs.Closings.{ClosedTable}
use Rattle.plan_shape.specs.Blueprint.{Blueprint}
use Rattle.record_lines.specs.declared.ending.End.{End}
use Rattle.record_lines.specs.declared.ending.End.TheVariants.{Ended, Fault, Limit}
use Rattle.record_lines.specs.Records.{records_of, IsBeyond}
use Rattle.record_lines.proofs.RecordLaws.{IsBeyond-append}
use Rattle.record_loop.specs.declared.printer.Form.{Form}
use Rattle.record_loop.specs.declared.printer.Form.TheVariants.{Summary}
use Rattle.record_loop.specs.Generated.{generated_lines, generated_text, steady_view}
use Rattle.record_loop.specs.Printing.{Finished, HoldsAllBut}
use Rattle.record_loop.specs.ReadStarts.{ReadStart}
use Rattle.record_loop.specs.Reading.{Reads}
use Rattle.record_loop.specs.Tallies.{IsToldBy, TalliesWith}
use Rattle.whole_run.specs.declared.account.Account.{Account}
use Rattle.whole_run.specs.Accounts.{EndsRun, IsClosedFor, AreGiven}
use Rattle.whole_run.specs.Endings.{IsUnbegun, Streams, streams, begins}
use Rattle.line_rules.specs.Lawful.{Lawful}
use Rattle.line_rules.specs.PlanTerms.{window_of}
use Rattle.run_tally.specs.Gathered.{values_in, errors_in, stopped_in, no_memory_in}
use Rattle.exec_status.specs.declared.status.Status.{Status}
use Rattle.exec_status.specs.declared.status.Status.TheVariants.{NoMemory}
use Rattle.exec_engine.specs.declared.tally.Tally.{Tally}
use Rattle.exec_engine.specs.declared.task.Origin.{Origin}
use Rattle.exec_engine.specs.declared.task.Origin.TheVariants.{Source, Generated}
use Rattle.exec_engine.specs.declared.task.Task.{Task}
use Rattle.exec_engine.specs.Closes.{ClosesRun, Runs, TakesOver}
use Rattle.exec_engine.specs.Says.{terms_for}
use Rattle.exec_engine.specs.Statuses.{status_of}
use Rattle.exec_engine.specs.Tallies.{AreInOrder, IsNew, IsTallyOf}
use Rattle.exec_engine.specs.Taken.{Takes, LeavesSource, OutCaughtUp}
use Rattle.exec_engine.specs.Tasks.{form_for}

-- the tally took over what the account tells
pub record TookOver (account : Account) (tally : Tally) : Type 0 where
  pub collected : tally.collected ≡ account.tally
  pub closing : tally.closing ≡ Some account.closing

-- so it is that of the outcomes that the operations of the account were collected for
abbrev is-tally : (plan : Blueprint) (window : ℕ) (outcomes : List Outcome) (account : Account) (tally : Tally) → TookOver account tally → IsClosedFor plan window account.tally account.closing
    → IsToldBy plan account.closing.board.table_id outcomes account.tally → TalliesWith account.tally account.ending.summary → Summarizes account.ending.summary outcomes → IsTallyOf plan window outcomes tally
is-tally plan window outcomes account tally took closed told tallied counted = record {
  closing = account.closing;
  is = took.closing;
  closed = subst (λ all. IsClosedFor plan window all account.closing) (sym took.collected) closed;
  lines = subst (λ all. IsToldBy plan account.closing.board.table_id outcomes all) (sym took.collected) told;
  values = ap values_in took.collected ∙ tallied.values ∙ counted.values;
  errors = ap errors_in took.collected ∙ tallied.errors ∙ counted.errors;
  stopped = ap stopped_in took.collected ∙ tallied.stopped ∙ counted.stopped;
  no_memory = omega (arith, ap no_memory_in took.collected, tallied.no_memory, counted.no_memory);
}

-- a source whose count of faults is 0 had none
no-fault : (first last : ℕ) → first ≡ 0 → last ≡ 0 → Rose first last → ⊥
no-fault first last none still rose = subst (λ n. Rose n last → ⊥) (sym none) (subst (λ n. Rose 0 n → ⊥) (sym still) (λ (wrong : Rose 0 0). omega (arith, wrong))) rose

-- the text has these lines as its records, and passes no limit
pub record IsShownBy (text : List ℕ) (records : List (List ℕ)) : Type 0 where
  pub lines : records_of text Ended ≡ records
  pub within : ¬ IsBeyond text

-- how the reading of generated records ends: all are read
record ReadsGenerated (kind : Kind) (count : ℕ) (end : End) (bytes : List ℕ) : Type 0 where
  ended : end ≡ Ended
  are : records_of bytes end ≡ generated_lines kind count

reads-generated : (kind : Kind) (count : ℕ) (end : End) (left : Option (List ℕ)) (bytes : List ℕ) → IsShownBy (generated_text kind count) (generated_lines kind count) → Consumes (Some (generated_text kind count)) left bytes → (end ≡ Ended → IsAtEnd left) → (end ≡ Limit → IsBeyond bytes) → (end ≡ Fault → ⊥)
    → ReadsGenerated kind count end bytes
reads-generated kind count end None bytes shown consumed at_end beyond kept = absurd consumed
reads-generated kind count Fault (Some left) bytes shown consumed at_end beyond kept = absurd (kept refl)
reads-generated kind count Limit (Some left) bytes shown consumed at_end beyond kept =
    absurd (shown.within (subst IsBeyond (sym consumed) (IsBeyond-append bytes left (beyond refl))))
reads-generated kind count Ended (Some left) bytes shown consumed at_end beyond kept =
    let all : generated_text kind count ≡ bytes = consumed ∙ ap (λ bs. bytes ++ bs) (at_end refl) ∙ append-nil bytes in
    record { ended = refl; are = subst (λ bs. records_of bs Ended ≡ generated_lines kind count) all shown.lines }

module _ (plan : Blueprint) (task : Task) (window : ℕ) (sized : window ≡ window_of plan task.window) (account : Account) (tally : Tally) (took : TookOver account tally) (closed : IsClosedFor plan window account.tally account.closing) where
  -- the records were run with the window of the task
  closed-as : IsClosedFor plan (window_of plan task.window) account.tally account.closing
  closed-as = subst (λ w. IsClosedFor plan w account.tally account.closing) sized closed

  pub source-closes : (before after : Streams) (form : Form) → task.origin ≡ Source form → EndsRun plan window form before after account → ClosesRun plan task before after account.ending tally
  source-closes before after form is run =
      let ends = subst (λ w. EndsRun plan w form before after account) sized run in
      let ran = ends.ran in
      let outcomes = ran.answered.outcomes in
      let records = records_of ran.bytes account.ending.end in
      let of_task : Source form ≡ task.origin = sym is in
      record {
        outcomes = outcomes;
        records = records;
        rest = ran.rest;
        takes = subst (λ (o : Origin). Takes o plan.settings.input before.source after.source account.ending.end ran.rest records) of_task (record { bytes = ran.bytes; reads = ran.reads; are = refl });
        all = λ kept. ran.all (inl kept);
        lawful = ran.answered.lawful;
        finished = subst (λ (o : Origin). Finished (form_for o) before.sink after.sink account.ending.summary account.ending.lost outcomes) of_task ran.answered.finished;
        told = is-tally plan (window_of plan task.window) outcomes account tally took closed-as ran.answered.told ends.tallied ran.answered.finished.counted;
        begun = subst (λ (o : Origin). HoldsAllBut (window_of plan task.window) (form_for o) before.sink after.sink outcomes) of_task ran.begun;
        cause = λ fault kept. ran.cause fault (inl kept);
        still = ends.still;
        later = ends.later;
        leaves = subst (λ (o : Origin). LeavesSource o before after) of_task tt;
        reads = subst (λ (o : Origin). OutCaughtUp o (begins plan account.closing.board.table_id (window_of plan task.window) (form_for o) before.sink) before after) of_task ends.reads;
      }

  -- generated records, whatever the source and its reads are that weren't read
  pub generated-closes : (source : SourceView) (reads : Option (List ReadStart)) (first last : Streams) (count : ℕ) → task.origin ≡ Generated count → IsShownBy (generated_text plan.settings.input count) (generated_lines plan.settings.input count)
      → first.source ≡ steady_view (generated_text plan.settings.input count) → last.source.faults ≡ 0 → EndsRun plan window Summary first last account
      → ClosesRun plan task (streams source reads first.sink) (streams source reads last.sink) account.ending tally
  generated-closes source reads first last count is shown begun still run =
      let ends = subst (λ w. EndsRun plan w Summary first last account) sized run in
      let ran = ends.ran in
      let kind = plan.settings.input in
      let outcomes = ran.answered.outcomes in
      let of_task : Generated count ≡ task.origin = sym is in
      let none : ran.rest ≡ [] = ran.all (inr refl) in
      let consumed = subst (λ bs. Consumes (Some (generated_text kind count)) last.source.left bs) (ap (λ bs. ran.bytes ++ bs) none ∙ append-nil ran.bytes)
      (subst (λ (left : Option (List ℕ)). Consumes left last.source.left (ran.bytes ++ ran.rest)) (ap (λ (s : SourceView). s.left) begun) ran.reads.consumed) in
      let all = reads-generated kind count account.ending.end last.source.left ran.bytes shown consumed ran.reads.at_end ran.reads.beyond
      (λ fault. no-fault first.source.faults last.source.faults (ap (λ (s : SourceView). s.faults) begun) still (ran.cause fault (inr refl))) in
      record {
        outcomes = outcomes;
        records = generated_lines kind count;
        rest = [];
        takes = subst (λ (o : Origin). Takes o kind source source account.ending.end [] (generated_lines kind count)) of_task (record { ended = all.ended; none = refl; same = refl; are = refl });
        all = λ _. refl;
        lawful = subst (λ lines. Lawful (terms_for task plan) lines outcomes) all.are ran.answered.lawful;
        finished = subst (λ (o : Origin). Finished (form_for o) first.sink last.sink account.ending.summary account.ending.lost outcomes) of_task ran.answered.finished;
        told = is-tally plan (window_of plan task.window) outcomes account tally took closed-as ran.answered.told ends.tallied ran.answered.finished.counted;
        begun = subst (λ (o : Origin). HoldsAllBut (window_of plan task.window) (form_for o) first.sink last.sink outcomes) of_task ran.begun;
        cause = λ fault kept. absurd (let wrong : Fault ≡ Ended = sym fault ∙ all.ended in cc);
        still = λ _. refl;
        later = omega arith;
        leaves = subst (λ (o : Origin). LeavesSource o (streams source reads first.sink) (streams source reads last.sink)) of_task (record { source_same = refl; reads_same = refl });
        reads = subst (λ (o : Origin). OutCaughtUp o (begins plan account.closing.board.table_id (window_of plan task.window) (form_for o) first.sink) (streams source reads first.sink) (streams source reads last.sink)) of_task (record { source_same = refl; reads_same = refl });
      }

-- no backend was given out for a tally that is new
pub new-ordered : (task : Task) (tally : Tally) → IsNew tally → AreInOrder task tally.closing tally.given
new-ordered task tally new =
    subst (λ (t : Option (ClosedTable Item Entry Blueprint) × Option Given). AreInOrder task t.0 t.1) (λ j. (sym new.unopened j, sym new.ungiven j)) tt

-- a run gave them out to its workers in the order of its task
pub given-ordered : (task : Task) (asked workers : ℕ) (answer : Result Account AllocError) → asked ≡ MOST_WORKERS → workers ≤ task.workers
    → IfOk answer (λ (a : Account). AreGiven task.order asked workers a.given) → IfOk answer (λ (a : Account). AreInOrder task (Some a.closing) a.given)
given-ordered task asked workers (Ok account) all few has = by account.given has
  where
    by : (o : Option Given) → AreGiven task.order asked workers o → AreInOrder task (Some account.closing) o
    by (Some told) is = record { workers = workers; few = few; given = subst (λ (n : ℕ). HasGiven task.order n workers told) all is }
    by None is = absurd is
given-ordered task asked workers (Err e) all few has = tt

-- and the tally that takes over its answer tells it
pub takes-ordered : (task : Task) (answer : Result Account AllocError) (old new : Tally) → IfOk answer (λ (a : Account). AreInOrder task (Some a.closing) a.given) → IsNew old
    → IfOk answer (λ (a : Account). new.closing ≡ Some a.closing) → IfOk answer (λ (a : Account). new.given ≡ a.given) → OnErr answer (new ≡ old) → AreInOrder task new.closing new.given
takes-ordered task (Ok account) old new ordered was closing given same =
    subst (λ (t : Option (ClosedTable Item Entry Blueprint) × Option Given). AreInOrder task t.0 t.1) (λ j. (sym closing j, sym given j)) ordered
takes-ordered task (Err e) old new ordered was closing given same =
    subst (λ (t : Tally). AreInOrder task t.closing t.given) (sym same) (new-ordered task old was)

-- there was no memory to begin with
none-runs : (plan : Blueprint) (task : Task) (before after : Streams) (old new : Tally) (status : Status) → IsNew old → new ≡ old → status ≡ NoMemory → IsUnbegun before after → Runs plan task before after new status
none-runs plan task before after old new status uncounted same is unbegun = inl (record { is = is; unbegun = unbegun; uncounted = subst IsNew (sym same) uncounted })

module _ (plan : Blueprint) (task : Task) (window : ℕ) (sized : window ≡ window_of plan task.window) (old new : Tally) (status : Status) where
  pub source-runs : (before after : Streams) (form : Form) (answer : Result Account AllocError) → task.origin ≡ Source form → TakesOver answer old new status
      → IfOk answer (EndsRun plan window form before after) → IfOk answer (λ (a : Account). IsClosedFor plan window a.tally a.closing) → OnErr answer (IsUnbegun before after) → Runs plan task before after new status
  source-runs before after form (Ok account) is took ends closed unbegun =
      let told : TookOver account new = record { collected = took.collected; closing = took.closing } in
      inr (account.ending, source-closes plan task window sized account new told closed before after form is ends, took.status_is)
  source-runs before after form (Err e) is took ends closed unbegun = none-runs plan task before after old new status took.before took.same took.no_memory unbegun

  pub generated-runs : (source : SourceView) (reads : Option (List ReadStart)) (first last : Streams) (kind : Kind) (count : ℕ) (answer : Result Account AllocError) → kind ≡ plan.settings.input → task.origin ≡ Generated count → TakesOver answer old new status
      → IsShownBy (generated_text kind count) (generated_lines kind count) → first.source ≡ steady_view (generated_text kind count) → last.source.faults ≡ 0
      → IfOk answer (EndsRun plan window Summary first last) → IfOk answer (λ (a : Account). IsClosedFor plan window a.tally a.closing) → OnErr answer (IsUnbegun first last)
      → Runs plan task (streams source reads first.sink) (streams source reads last.sink) new status
  generated-runs source reads first last kind count (Ok account) of_plan is took shown begun still ends closed unbegun =
      let told : TookOver account new = record { collected = took.collected; closing = took.closing } in
      let shown_by = subst (λ k. IsShownBy (generated_text k count) (generated_lines k count)) of_plan shown in
      let text = subst (λ k. first.source ≡ steady_view (generated_text k count)) of_plan begun in
      inr (account.ending, generated-closes plan task window sized account new told closed source reads first last count is shown_by text still ends, took.status_is)
  generated-runs source reads first last kind count (Err e) of_plan is took shown begun still ends closed unbegun =
      none-runs plan task (streams source reads first.sink) (streams source reads last.sink) old new status took.before took.same took.no_memory
      (record { untouched = record { source_same = refl; sink_same = unbegun.untouched.sink_same }; unread = refl })
