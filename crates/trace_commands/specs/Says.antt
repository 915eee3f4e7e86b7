-- What each status says of the file and of out.
use Rattle.std.specs.Prelude.{◌≡◌, ◌⊎◌, ℕ, List}
use Rattle.exec_io.specs.Outside.{Outside}
use Rattle.exec_status.specs.declared.status.Status.{Status}
use Rattle.exec_status.specs.declared.status.Status.TheVariants.{AllValues, NotAllValues, Usage, PlanRefused, NoMemory, ReadFault, WriteFault, Limit}
use Rattle.exec_status.specs.Sinks.{TellsAll, TellsFront}
use Rattle.trace_commands.specs.declared.file.Refusal.{Refusal}
use Rattle.trace_commands.specs.Answers.{Question, HasAnswer}
use Rattle.trace_commands.specs.Refusals.{HasRefusal}

module _ (question : Question) (name : List ℕ) (old new : Outside) where
  -- The whole answer of this status was written and handed on, and no call of out failed.
  abbrev pub Answers : Status → Type 0
  Answers status =
      (text : List ℕ) × HasAnswer question old.shelf.texts name status text
      × TellsAll old.out new.out text

  -- A front of the answer was written, and a call of out failed.
  abbrev pub AnswersFront : Type 0
  AnswersFront =
      (status : Status) × (text : List ℕ) × HasAnswer question old.shelf.texts name status text
      × TellsFront old.out new.out text

  -- An answer is written whole, or a front of it where out failed; at every other status nothing is
  -- done to out.
  abbrev pub Says : Status → Type 0
  Says AllValues = Answers AllValues
  Says NotAllValues = Answers NotAllValues
  Says Usage = ⊥
  Says PlanRefused =
      ((refusal : Refusal) × HasRefusal question old.shelf.texts name refusal)
      × (new.out ≡ old.out)
  Says NoMemory = new.out ≡ old.out
  Says ReadFault = new.out ≡ old.out
  Says WriteFault = (new.out ≡ old.out) ⊎ AnswersFront
  Says Limit = ⊥
