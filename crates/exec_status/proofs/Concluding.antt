-- What follows of notes that were told of a status.
use Rattle.std.proofs.Common.{◌≡◌, ◌≢◌, ◌⊎◌, ℕ, List, [], refl, inl, inr}
use Rattle.exec_io.specs.Causes.{Rose}
use Rattle.exec_status.specs.declared.status.Status.{Status}
use Rattle.exec_status.specs.declared.status.Status.TheVariants.{AllValues, NotAllValues, Usage, PlanRefused, NoMemory, ReadFault, WriteFault, Limit}
use Rattle.exec_io.specs.Views.{SinkView}
use Rattle.exec_io.specs.Untouched.{IsHandedOn}
use Rattle.exec_status.specs.Sinks.{Tells}
use Rattle.exec_status.specs.Notes.{note_of}
use Rattle.exec_status.specs.Noted.{Concludes, Noted}
use Rattle.exec_status.specs.Noted.Concludes.{quiet, told, failed}

-- the words are no fault, and the file isn't refused
abbrev pub IsOfRun : Status → Type 0
IsOfRun Usage = ⊥
IsOfRun PlanRefused = ⊥
IsOfRun _ = Unit {0}

-- the status stands, or notes failed at its note
pub concluded : (P : Status → Type 0) {first last : SinkView} (status result : Status) → P status → (note_of status ≢ [] → P WriteFault) → Concludes status first last result → P result
concluded P status result stands fault (quiet none same) = stands
concluded P status result stands fault (told some all) = stands
concluded P status result stands fault (failed some front) = fault some

-- a status without a note stands
pub quiet-concluded : {first last : SinkView} (status result : Status) → note_of status ≡ [] → Concludes status first last result → result ≡ status
quiet-concluded status result silent (quiet none same) = refl
quiet-concluded status result silent (told some all) = absurd (some silent)
quiet-concluded status result silent (failed some front) = absurd (some silent)

pub read_fault-concluded : {first last : SinkView} (status result : Status) → Concludes status first last result → result ≡ ReadFault → status ≡ ReadFault
read_fault-concluded status result (quiet none same) is = is
read_fault-concluded status result (told some all) is = is
read_fault-concluded status result (failed some front) is = absurd (cc)

pub write_fault-concluded : {first last : SinkView} (status result : Status) → Concludes status first last result → result ≡ WriteFault → (status ≡ WriteFault) ⊎ Rose first.faults last.faults
write_fault-concluded status result (quiet none same) is = inl is
write_fault-concluded status result (told some all) is = inl is
write_fault-concluded status result (failed some front) is = inr front.cause

-- what notes hold once the note of a status was told
pub Noted-concluded : (came : Status → Type 0) (refused : List ℕ → Type 0) {old new : SinkView} (status result : Status) → came status → IsOfRun status → Concludes status old new result → Noted came refused old new result
Noted-concluded came refused status result says run (failed some front) =
    inr (record { status = status; to_status = says; has_note = some; front = front })
Noted-concluded came refused AllValues result says run (quiet none same) = same
Noted-concluded came refused NotAllValues result says run (quiet none same) = same
Noted-concluded came refused Usage result says run (quiet none same) = absurd run
Noted-concluded came refused PlanRefused result says run (quiet none same) = absurd run
Noted-concluded came refused NoMemory result says run (quiet none same) = absurd (cc)
Noted-concluded came refused ReadFault result says run (quiet none same) = absurd (cc)
Noted-concluded came refused WriteFault result says run (quiet none same) = absurd (cc)
Noted-concluded came refused Limit result says run (quiet none same) = absurd (cc)
Noted-concluded came refused AllValues result says run (told some all) = absurd (some refl)
Noted-concluded came refused NotAllValues result says run (told some all) = absurd (some refl)
Noted-concluded came refused Usage result says run (told some all) = absurd run
Noted-concluded came refused PlanRefused result says run (told some all) = absurd run
Noted-concluded came refused NoMemory result says run (told some all) = all
Noted-concluded came refused ReadFault result says run (told some all) = all
Noted-concluded came refused WriteFault result says run (told some all) = inl all
Noted-concluded came refused Limit result says run (told some all) = all

-- a sink that was told, and didn't fail, has nothing left to hand on
pub Tells-handed : {old new : SinkView} {text : List ℕ} → Tells old new text → ¬ Rose old.faults new.faults → IsHandedOn old new
Tells-handed (inl all) still = inl all.handed_on
Tells-handed (inr front) still = absurd (still front.cause)

pub Noted-handed : (came : Status → Type 0) (refused : List ℕ → Type 0) {old new : SinkView} (status : Status) → Noted came refused old new status → ¬ Rose old.faults new.faults → IsHandedOn old new
Noted-handed came refused AllValues noted still = inr noted
Noted-handed came refused NotAllValues noted still = inr noted
Noted-handed came refused Usage noted still = absurd noted
Noted-handed came refused PlanRefused noted still = Tells-handed noted.2 still
Noted-handed came refused NoMemory noted still = inl noted.handed_on
Noted-handed came refused ReadFault noted still = inl noted.handed_on
Noted-handed came refused WriteFault (inl all) still = inl all.handed_on
Noted-handed came refused WriteFault (inr front) still = absurd (still front.front.cause)
Noted-handed came refused Limit noted still = inl noted.handed_on
