-- How a run ends, by its plan and what it printed, or by why there was no plan.
use Rattle.std.proofs.Common.{◌≡◌, ◌≢◌, ◌⊎◌, ◌≤◌, Ok, Err, refl, ap, inl, inr, arith}
use Rattle.exec_io.specs.Causes.{Rose}
use Rattle.exec_io.specs.Views.{SourceView, SinkView}
use Rattle.plan_reader.specs.declared.fault.PlanFault.{PlanFault}
use Rattle.plan_shape.specs.Blueprint.{Blueprint}
use Rattle.whole_run.specs.Endings.{IsUnbegun}
use Rattle.exec_status.specs.declared.file.FileFault.{FileFault}
use Rattle.exec_status.specs.declared.file.FileFault.TheVariants.{ReadFault as NotRead}
use Rattle.exec_status.specs.declared.status.Status.{Status}
use Rattle.exec_status.specs.declared.status.Status.TheVariants.{ReadFault, WriteFault}
use Rattle.exec_status.specs.Files.{ReadsShelf, Misses, GivesUp}
use Rattle.exec_status.specs.Noted.{Concludes}
use Rattle.exec_status.proofs.Concluding.{concluded, read_fault-concluded, write_fault-concluded, Noted-concluded, Noted-handed}
use Rattle.exec_status.proofs.Missing.{missed-status, missed-noted, missed-read, missed-write, missed-still, missed-refused}
use Rattle.exec_engine.specs.declared.tally.Tally.{Tally}
use Rattle.exec_engine.specs.declared.task.Task.{Task}
use Rattle.exec_engine.specs.Closes.{Runs}
use Rattle.exec_engine.specs.Ends.{RunEnds}
use Rattle.exec_engine.specs.Opening.{HasPlan, HasPlanRefusal}
use Rattle.exec_engine.specs.Refusals.{IsPlanRefusedWith, refusal_of}
use Rattle.exec_engine.specs.Says.{Says}
use Rattle.exec_engine.specs.Surroundings.{Surroundings, streams_in}
use Rattle.exec_engine.specs.Tallies.{AreInOrder, IsNew}
use Rattle.exec_engine.proofs.ClosesLaws.{new-ordered}
use Rattle.exec_engine.proofs.RefusedLaws.{opened-stands}
use Rattle.exec_engine.proofs.SaysLaws.{says-run, says-fault, run-is, run-write, run-read, run-out_still, run-records_still, run-handed, run-out_later, run-records_later, run-leaves, same-leaves}
use Rattle.exec_engine.proofs.LimitLaws.{says-beyond, says-within, says-finished}
use Rattle.exec_engine.proofs.ValuesLaws.{says-values, says-small, says-small_lines}

-- the end of a run whose plan was opened
pub run-ends : (task : Task) (old new : Surroundings) (tally : Tally) {plan : Blueprint} (status result : Status) → AreInOrder task tally.closing tally.given → HasPlan old.shelf.texts task.plan.now plan → Runs plan task (streams_in old) (streams_in new) tally status
    → Concludes status old.notes new.notes result → ReadsShelf {T = Blueprint} {C = PlanFault} task.plan.now old.shelf new.shelf (Ok plan) → old.notes.faults ≤ new.notes.faults → RunEnds task old new tally result
run-ends task old new tally status result ordered has runs concludes reads notes_later =
    let came = Says task old new tally in
    let refused = IsPlanRefusedWith old.shelf.texts task.plan.now in
    let before : came status = says-run task old new tally status has runs in
    let says : came result = concluded came status result before (λ _. says-fault task old new tally status before) concludes in
    let noted = Noted-concluded came refused status result before (run-is status runs) concludes in
    let read : result ≡ ReadFault → Rose old.records.faults new.records.faults =
    λ e. run-read status runs (read_fault-concluded status result concludes e) in
    let write : result ≡ WriteFault → Rose old.out.faults new.out.faults ⊎ Rose old.notes.faults new.notes.faults =
    λ e. elim (write_fault-concluded status result concludes e) [ inl lost ↦ inl (run-write status runs lost) | inr rose ↦ inr rose ] in
    let shelf : new.shelf.faults ≡ old.shelf.faults = reads.still (λ e. cc) in
    record {
      says = says;
      noted = noted;
      ordered = ordered;
      read_fault = λ e. inr (read e);
      write_fault = write;
      shelf_still = λ _ _. shelf;
      records_still = concluded (λ s. s ≢ ReadFault → s ≢ WriteFault → new.records.faults ≡ old.records.faults) status result
          (run-records_still status runs) (λ _ _ other. absurd (other refl)) concludes;
      out_still = concluded (λ s. s ≢ WriteFault → new.out.faults ≡ old.out.faults) status result
          (run-out_still status runs) (λ _ other. absurd (other refl)) concludes;
      leaves = run-leaves status runs;
      beyond = says-beyond task old new tally result says;
      within = says-within task old new tally result says;
      out_handed_on = run-handed status runs;
      notes_handed_on = Noted-handed came refused result noted;
      refused = λ fault stands _. absurd (opened-stands fault has stands);
      complete = λ plan stands within shelf_kept records_kept out_kept notes_kept.
          says-finished task old new tally plan result stands within (λ e. records_kept (read e))
          (λ e. elim (write e) [ inl rose ↦ out_kept rose | inr rose ↦ notes_kept rose ]) says;
      complete_values = λ plan stands finished settle. says-values task old new tally plan result stands finished settle says;
      small_lines = λ end rest outcomes lines small some. says-small_lines task old new end rest outcomes lines small some;
      small = λ plan stands small is. says-small task old new tally plan result stands small says is;
      asks = reads.asks;
      shelf_same = reads.same;
      shelf_later = reads.later;
      records_later = run-records_later status runs;
      out_later = run-out_later status runs;
      notes_later = notes_later;
    }

-- the end of a run that had no plan
pub missed-ends : (task : Task) (old new : Surroundings) (tally : Tally) (fault : FileFault PlanFault) (result : Status) → IsUnbegun (streams_in old) (streams_in new) → IsNew tally
    → Misses (HasPlanRefusal old.shelf.texts task.plan.now) fault → GivesUp refusal_of fault old.notes new.notes result → ReadsShelf {T = Blueprint} {C = PlanFault} task.plan.now old.shelf new.shelf (Err fault)
    → old.notes.faults ≤ new.notes.faults → RunEnds task old new tally result
missed-ends task old new tally fault result kept uncounted misses gives_up reads notes_later =
    let came = Says task old new tally in
    let refused = IsPlanRefusedWith old.shelf.texts task.plan.now in
    let has = HasPlanRefusal old.shelf.texts task.plan.now in
    let says : came result = missed-status refusal_of old.notes new.notes came has fault result (λ cause is. ((cause, is), (kept, uncounted))) (inl (kept, uncounted)) (inl (kept, uncounted)) (inl (kept, uncounted)) misses gives_up in
    let noted = missed-noted refusal_of old.notes new.notes came refused has fault result (λ cause is. (cause, is, refl)) (inl (kept, uncounted)) (inl (kept, uncounted)) misses gives_up in
    let cause : fault ≡ NotRead → Rose old.shelf.faults new.shelf.faults = λ e. reads.cause (ap (λ (f : FileFault PlanFault). Err f) e) in
    let read : result ≡ ReadFault → Rose old.shelf.faults new.shelf.faults = λ e. cause (missed-read refusal_of old.notes new.notes fault result gives_up e) in
    let write : result ≡ WriteFault → Rose old.notes.faults new.notes.faults = missed-write refusal_of old.notes new.notes fault result gives_up in
    let records : new.records.faults ≡ old.records.faults = ap (λ (s : SourceView). s.faults) kept.untouched.source_same in
    let out : new.out.faults ≡ old.out.faults = ap (λ (s : SinkView). s.faults) kept.untouched.sink_same in
    record {
      says = says;
      noted = noted;
      ordered = new-ordered task tally uncounted;
      read_fault = λ e. inl (read e);
      write_fault = λ e. inr (write e);
      shelf_still = λ no_read no_write.
          let other : fault ≢ NotRead = missed-still refusal_of old.notes new.notes fault result gives_up no_read no_write in
          reads.still (λ e. other (cc));
      records_still = λ _ _. records;
      out_still = λ _. out;
      leaves = same-leaves task.origin (streams_in old) (streams_in new) kept;
      beyond = says-beyond task old new tally result says;
      within = says-within task old new tally result says;
      out_handed_on = λ _. inr kept.untouched.sink_same;
      notes_handed_on = Noted-handed came refused result noted;
      refused = λ other stands shelf_kept. missed-refused refusal_of old.notes new.notes fault result gives_up (λ e. shelf_kept (cause e));
      complete = λ plan stands within shelf_kept records_kept out_kept notes_kept.
          says-finished task old new tally plan result stands within (λ e. shelf_kept (read e)) (λ e. notes_kept (write e)) says;
      complete_values = λ plan stands finished settle. says-values task old new tally plan result stands finished settle says;
      small_lines = λ end rest outcomes lines small some. says-small_lines task old new end rest outcomes lines small some;
      small = λ plan stands small is. says-small task old new tally plan result stands small says is;
      asks = reads.asks;
      shelf_same = reads.same;
      shelf_later = reads.later;
      records_later = omega (arith, records);
      out_later = omega (arith, out);
      notes_later = notes_later;
    }
