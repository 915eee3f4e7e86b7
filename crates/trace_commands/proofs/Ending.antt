-- How a command on a file ends, by what it printed or missed.
use Rattle.std.proofs.Common.{◌≡◌, ◌≢◌, ◌⊎◌, ℕ, ◌≤◌, List, [], Ok, Err, refl, ap, ◌∙◌, subst, inl, inr, arith}
use Rattle.exec_io.specs.Causes.{Rose}
use Rattle.exec_io.specs.Outside.{Outside}
use Rattle.exec_io.specs.Shelves.{Stands}
use Rattle.exec_status.specs.declared.file.FileFault.{FileFault}
use Rattle.exec_status.specs.declared.file.FileFault.TheVariants.{Refused, ReadFault as NotRead, NoMemory as NoFileMemory}
use Rattle.exec_status.specs.declared.status.Status.{Status}
use Rattle.exec_status.specs.declared.status.Status.TheVariants.{AllValues, NotAllValues, Usage, PlanRefused, NoMemory, ReadFault, WriteFault, Limit}
use Rattle.exec_status.specs.Notes.{note_of}
use Rattle.exec_status.specs.Files.{ReadsShelf, Misses, GivesUp, RunsShort}
use Rattle.exec_status.specs.Noted.{Concludes}
use Rattle.exec_io.specs.Views.{SinkView}
use Rattle.exec_io.specs.Untouched.{IsHandedOn}
use Rattle.exec_status.specs.Sinks.{TellsAll}
use Rattle.exec_status.proofs.Concluding.{IsOfRun, concluded, quiet-concluded, read_fault-concluded, write_fault-concluded, Noted-concluded, Noted-handed}
use Rattle.exec_status.proofs.Missing.{missed-status, missed-noted, missed-read, missed-write, missed-still, missed-refused, short-concluded}
use Rattle.exec_io.proofs.GivenLemmas.{given-stands}
use Rattle.trace_text.specs.declared.limits.TheConstants.{FILE_BYTES}
use Rattle.trace_commands.specs.declared.file.Refusal.{Refusal}
use Rattle.trace_commands.specs.Answers.{Question, HasAnswer, IsDue, Prints}
use Rattle.trace_commands.specs.Answers.Prints.{whole, front}
use Rattle.trace_commands.specs.Refusals.{HasRefusal, IsRefusedWith, told_refusal}
use Rattle.trace_commands.specs.Says.{Says}
use Rattle.trace_commands.specs.Ends.{Ends}
use Rattle.trace_commands.proofs.Due.{IsDecided}

-- an answer comes with one of these statuses
abbrev pub IsAnswer : Status → Type 0
IsAnswer AllValues = Unit {0}
IsAnswer NotAllValues = Unit {0}
IsAnswer _ = ⊥

-- of which nothing is told
no_note : (due : Status) → IsAnswer due → note_of due ≡ []
no_note AllValues is = refl
no_note NotAllValues is = refl
no_note Usage is = absurd is
no_note PlanRefused is = absurd is
no_note NoMemory is = absurd is
no_note ReadFault is = absurd is
no_note WriteFault is = absurd is
no_note Limit is = absurd is

answer-of_run : (due : Status) → IsAnswer due → IsOfRun due
answer-of_run AllValues is = tt
answer-of_run NotAllValues is = tt
answer-of_run Usage is = absurd is
answer-of_run PlanRefused is = absurd is
answer-of_run NoMemory is = absurd is
answer-of_run ReadFault is = absurd is
answer-of_run WriteFault is = absurd is
answer-of_run Limit is = absurd is

module _ (question : Question) (name : List ℕ) (old new : Outside) where
  Says-whole : {text : List ℕ} (due : Status) → IsAnswer due → HasAnswer question old.shelf.texts name due text → TellsAll old.out new.out text → Says question name old new due
  Says-whole {text = text} AllValues is has all = (text, has, all)
  Says-whole {text = text} NotAllValues is has all = (text, has, all)
  Says-whole Usage is has all = absurd is
  Says-whole PlanRefused is has all = absurd is
  Says-whole NoMemory is has all = absurd is
  Says-whole ReadFault is has all = absurd is
  Says-whole WriteFault is has all = absurd is
  Says-whole Limit is has all = absurd is

  module _ {text : List ℕ} (due : Status) (is : IsAnswer due) (has : HasAnswer question old.shelf.texts name due text) where
    Says-printed : (status : Status) → Prints due text old.out new.out status → Says question name old new status
    Says-printed status (whole all) = Says-whole due is has all
    Says-printed status (front part) = inr (due, text, has, part)

    -- a note is told only where out failed
    Says-fault : (status : Status) → Prints due text old.out new.out status → note_of status ≢ [] → Says question name old new WriteFault
    Says-fault status (whole all) some = absurd (some (no_note due is))
    Says-fault status (front part) some = inr (due, text, has, part)

Prints-run : {text : List ℕ} {old new : SinkView} (due status : Status) → IsAnswer due → Prints due text old new status → IsOfRun status
Prints-run due status is (whole all) = answer-of_run due is
Prints-run due status is (front part) = tt

Prints-read : {text : List ℕ} {old new : SinkView} (due status : Status) → IsAnswer due → Prints due text old new status → status ≡ ReadFault → ⊥
Prints-read due status is (whole all) e = subst IsAnswer e is
Prints-read due status is (front part) e = cc

Prints-write : {text : List ℕ} {old new : SinkView} (due status : Status) → IsAnswer due → Prints due text old new status → status ≡ WriteFault → Rose old.faults new.faults
Prints-write due status is (whole all) e = absurd (subst IsAnswer e is)
Prints-write due status is (front part) e = part.cause

Prints-handed : {text : List ℕ} {old new : SinkView} (due status : Status) → Prints due text old new status → ¬ Rose old.faults new.faults → IsHandedOn old new
Prints-handed due status (whole all) still = inl all.handed_on
Prints-handed due status (front part) still = absurd (still part.cause)

-- where out didn't fail the answer's status stands, also where notes fail
Prints-due : {text : List ℕ} {old new first last : SinkView} (due status result : Status) → IsAnswer due → Prints due text old new status → Concludes status first last result → ¬ Rose old.faults new.faults → result ≡ due
Prints-due due status result is (whole all) concludes still = quiet-concluded due result (no_note due is) concludes
Prints-due due status result is (front part) concludes still = absurd (still part.cause)

-- the end of a command that had an answer
pub answered : {T : Type 0} {x : T} (question : Question) (name : List ℕ) (old new : Outside) {text : List ℕ} (due status result : Status) →
    IsDecided question → IsAnswer due → HasAnswer question old.shelf.texts name due text → ReadsShelf {T = T} {C = Refusal} name old.shelf new.shelf (Ok x) → new.records ≡ old.records →
    Prints due text old.out new.out status → Concludes status old.notes new.notes result → old.out.faults ≤ new.out.faults → old.notes.faults ≤ new.notes.faults → Ends question name old new result
answered question name old new {text = text} due status result decided is has reads records prints concludes out notes =
    let came = Says question name old new in
    let refused = IsRefusedWith question old.shelf.texts name in
    let says : came result = concluded came status result (Says-printed question name old new due is has status prints) (Says-fault question name old new due is has status prints) concludes in
    let noted = Noted-concluded came refused status result (Says-printed question name old new due is has status prints) (Prints-run due status is prints) concludes in
    let shelf : new.shelf.faults ≡ old.shelf.faults = reads.still (λ e. cc) in
    record {
      says = says;
      noted = noted;
      read_fault = λ e. absurd (Prints-read due status is prints (read_fault-concluded status result concludes e));
      write_fault = λ e. elim (write_fault-concluded status result concludes e) [ inl lost ↦ inl (Prints-write due status is prints lost) | inr rose ↦ inr rose ];
      shelf_still = λ _ _. shelf;
      out_handed_on = Prints-handed due status prints;
      notes_handed_on = Noted-handed came refused result noted;
      refused = λ refusal stands _.
          let is_so = given-stands FILE_BYTES old.shelf.texts name has.bytes (λ bytes. question.refuses bytes refusal) has.given stands in
          let wrong : due ≡ PlanRefused = decided.answered has.bytes due PlanRefused text has.answer (inr ((refusal, is_so), refl)) in
          absurd (subst IsAnswer wrong is);
      complete = λ wanted stands _ out_still.
          let is_due = given-stands FILE_BYTES old.shelf.texts name has.bytes (λ bytes. IsDue question bytes wanted) has.given stands in
          inl (Prints-due due status result is prints concludes out_still ∙ decided.answered has.bytes due wanted text has.answer is_due);
      asks = reads.asks;
      shelf_same = reads.same;
      records_same = records;
      shelf_later = reads.later;
      out_later = out;
      notes_later = notes;
    }

-- the status that is due to a file that was missed
missed-due : (question : Question) (name : List ℕ) (old new : Outside) (fault : FileFault Refusal) (result due : Status) → IsDecided question → Misses (HasRefusal question old.shelf.texts name) fault → GivesUp told_refusal fault old.notes new.notes result → fault ≢ NotRead →
    Stands FILE_BYTES old.shelf.texts name (λ bytes. IsDue question bytes due) → (result ≡ due) ⊎ RunsShort old.notes new.notes result
missed-due question name old new (Refused refusal) result due decided misses gives_up other stands =
    let is_due = given-stands FILE_BYTES old.shelf.texts name misses.bytes (λ bytes. IsDue question bytes due) misses.given stands in
    inl (gives_up.0 ∙ decided.refused misses.bytes refusal due misses.is is_due)
missed-due question name old new NotRead result due decided misses gives_up other stands = absurd (other refl)
missed-due question name old new NoFileMemory result due decided misses gives_up other stands = inr (short-concluded result gives_up)

-- the end of a command that had none
pub missed : {T : Type 0} (question : Question) (name : List ℕ) (old new : Outside) (fault : FileFault Refusal) (result : Status) →
    IsDecided question → Misses (HasRefusal question old.shelf.texts name) fault → GivesUp told_refusal fault old.notes new.notes result → ReadsShelf {T = T} {C = Refusal} name old.shelf new.shelf (Err fault) →
    new.records ≡ old.records → new.out ≡ old.out → old.notes.faults ≤ new.notes.faults → Ends question name old new result
missed question name old new fault result decided misses gives_up reads records out notes =
    let came = Says question name old new in
    let refused = IsRefusedWith question old.shelf.texts name in
    let has = HasRefusal question old.shelf.texts name in
    let noted = missed-noted told_refusal old.notes new.notes came refused has fault result (λ refusal is. (refusal, is, refl)) out out misses gives_up in
    let read : result ≡ ReadFault → fault ≡ NotRead = missed-read told_refusal old.notes new.notes fault result gives_up in
    let cause : fault ≡ NotRead → Rose old.shelf.faults new.shelf.faults = λ e. reads.cause (ap (λ (f : FileFault Refusal). Err f) e) in
    record {
      says = missed-status told_refusal old.notes new.notes came has fault result (λ refusal is. ((refusal, is), out)) out out (inl out) misses gives_up;
      noted = noted;
      read_fault = λ e. cause (read e);
      write_fault = λ e. inr (missed-write told_refusal old.notes new.notes fault result gives_up e);
      shelf_still = λ no_read no_write.
          let other : fault ≢ NotRead = missed-still told_refusal old.notes new.notes fault result gives_up no_read no_write in
          reads.still (λ e. other (cc));
      out_handed_on = λ _. inr out;
      notes_handed_on = Noted-handed came refused result noted;
      refused = λ refusal stands still. missed-refused told_refusal old.notes new.notes fault result gives_up (λ e. still (cause e));
      complete = λ due stands still _. missed-due question name old new fault result due decided misses gives_up (λ e. still (cause e)) stands;
      asks = reads.asks;
      shelf_same = reads.same;
      records_same = records;
      shelf_later = reads.later;
      out_later = let same : new.out.faults ≡ old.out.faults = ap (λ (s : SinkView). s.faults) out in omega (arith, same);
      notes_later = notes;
    }
