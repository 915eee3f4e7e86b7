-- How what is asked of parts ends.
use Rattle.std.specs.Prelude.{◌≡◌, ◌⊎◌, ℕ, Bool, List, [], Result, Ok, Err, IfSome, if◌then◌else◌}
use Rattle.std.specs.Borrow.{Bor}
use Rattle.std.specs.List.{AllZip}
use Rattle.exec_io.specs.Causes.{Rose}
use Rattle.exec_io.specs.Shelves.{Texts}
use Rattle.exec_io.specs.Sinks.{Appends}
use Rattle.exec_io.specs.Views.{SinkView}
use Rattle.exec_io.specs.Writing.{AppendsFront}
use Rattle.exec_status.specs.declared.status.Status.{Status}
use Rattle.exec_status.specs.Sinks.{TellsAll}
use Rattle.part_lines.specs.Lines.{lines_from}
use Rattle.join_commands.specs.declared.ask.Asked.{Asked}
use Rattle.join_commands.specs.declared.ask.Asked.TheVariants.{Lines, Dealt, Summary}
use Rattle.join_commands.specs.declared.fault.JoinFault.{JoinFault}
use Rattle.join_commands.specs.declared.fault.JoinFault.TheVariants.{Refused, WriteFault}
use Rattle.part_lines.specs.declared.tally.Tally.{Tally}
use Rattle.join_commands.specs.Parts.{IsTallied, IsWholePart}
use Rattle.part_lines.specs.Streams.{AreDealt, in_order}
use Rattle.join_commands.specs.Statuses.{lines_status}

-- The parts of these names are whole, and their lines are these.
abbrev pub AreWhole : Texts → List (Bor (List ℕ)) → List (List (List ℕ)) → Type 0
AreWhole texts names parts = AllZip (λ name said. IsWholePart texts name.now said) names parts

-- These are the lines of the stream of which parts with these lines were run.
abbrev pub AreJoined : Asked → List (List (List ℕ)) → List (List ℕ) → Type 0
AreJoined Lines parts lines = lines ≡ in_order parts
AreJoined Dealt parts lines = AreDealt parts lines
AreJoined Summary parts lines = ⊥

-- What one run over all records would write was written and handed on, and this is the status that
-- it would end with.
pub record JoinsLines (texts : Texts) (asked : Asked) (names : List (Bor (List ℕ)))
    (old new : SinkView) (status : Status) : Type 0 where
  pub parts : List (List (List ℕ))
  pub lines : List (List ℕ)
  pub whole : AreWhole texts names parts
  pub joined : AreJoined asked parts lines
  pub told : TellsAll old new (lines_from 1 lines)
  pub status_is : status ≡ lines_status lines

-- The tallies have counted the lines of the parts of these names, which are whole.
abbrev pub AreTallied : Texts → List (Bor (List ℕ)) → List Tally → Type 0
AreTallied texts names tallies = AllZip (λ name tally. IsTallied texts name.now tally) names tallies

-- How lines of parts are asked for: dealt, or one part after another.
abbrev pub asked_for : Bool → Asked
asked_for dealt = if dealt then Dealt else Lines

-- This text was written; or a front of it, where a write or a read failed or there was no memory.
-- No part is refused any more.
abbrev pub PutsText : List ℕ → SinkView → SinkView → Result (Unit {0}) JoinFault → Type 0
PutsText text old new (Ok done) =
    Appends old.written new.written text × (new.faults ≡ old.faults)
PutsText text old new (Err (Refused refusal)) = ⊥
PutsText text old new (Err WriteFault) =
    AppendsFront old.written new.written text × Rose old.faults new.faults
PutsText text old new (Err fault) = AppendsFront old.written new.written text

-- These lines were written so, numbered from 1.
abbrev pub PutsJoined : List (List ℕ) → SinkView → SinkView → Result (Unit {0}) JoinFault → Type 0
PutsJoined lines old new result = PutsText (lines_from 1 lines) old new result

-- What was written was handed on, and no call of the sink failed.
pub record HandsOn (old new : SinkView) : Type 0 where
  pub wrote : Appends old.written new.written []
  pub handed_on : IfSome new.outstanding (λ count. count ≡ 0)
  pub still : new.faults ≡ old.faults

-- A front of what one run over all records would write was written.
pub record WritesFront (texts : Texts) (asked : Asked) (names : List (Bor (List ℕ)))
    (old new : SinkView) : Type 0 where
  pub parts : List (List (List ℕ))
  pub lines : List (List ℕ)
  pub whole : AreWhole texts names parts
  pub joined : AreJoined asked parts lines
  pub front : AppendsFront old.written new.written (lines_from 1 lines)

-- Where lines weren't joined nothing was done to the sink, or a front was written of what one run
-- would write. Where a part is refused nothing was done.
abbrev pub LeavesFront : Texts → Asked → List (Bor (List ℕ)) → SinkView → SinkView → JoinFault
    → Type 0
LeavesFront texts asked names old new (Refused refusal) = new ≡ old
LeavesFront texts asked names old new fault = (new ≡ old) ⊎ WritesFront texts asked names old new
