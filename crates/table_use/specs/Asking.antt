-- What the calls for a root that hears the scope's source did: what they read and left, and were
-- answered.
use Rattle.std.specs.Prelude.{ℕ, ◌⊎◌, Option, Some, None}
use Rattle.life_rules.specs.declared.words.CallbackPhase.TheVariants.{Never}
use Rattle.life_rules.specs.declared.event.Name.{Name}
use Rattle.life_rules.specs.declared.event.SourceRef.TheVariants.{Scope}
use Rattle.table_rules.specs.declared.cargo.Cargo.{Ghosts}
use Rattle.table_steps.specs.Views.{Board}
use Rattle.table_steps.specs.Readings.{IsPhaseAs}
use Rattle.table_steps.specs.Steps.{Finished}
use Rattle.op_slot.specs.Puts.{IsTakenOut}
use Rattle.stop_calls.specs.declared.arming.Armed.{Armed}
use Rattle.stop_calls.specs.declared.removing.Withdrawn.{Withdrawn}
use Rattle.stop_calls.specs.declared.requesting.Request.{Request}
use Rattle.stop_calls.specs.declared.requesting.Request.TheVariants.{Made, Already}
use Rattle.stop_calls.specs.declared.scanning.Scan.{Scan}
use Rattle.stop_calls.specs.Armings.{IsArmedSo}
use Rattle.stop_calls.specs.Removals.{IsTried, IsOver}
use Rattle.stop_calls.specs.Requests.{IsRequested}
use Rattle.stop_calls.specs.Walks.{IsFound, IsThrough}
use Rattle.table_use.specs.declared.cargo.Entry.{Entry}
use Rattle.table_use.specs.declared.cargo.Item.{Item}
use Rattle.table_use.specs.Causes.{GoesOn}
pub use Rattle.table_use.specs.Counts.{Worker}
use Rattle.table_use.specs.Counts.{RunsOut}

-- what the request answered that gave such a scan, or none
abbrev pub request_of : Option Scan → Request
request_of (Some scan) = Made scan
request_of None = Already

module _ (board : Board ℕ) (root : Name) where
  -- the root's callback was read as never registered, and then it was, with this answer
  pub record Listens (answer : Armed) (old new : Worker) : Type 0 where
    pub middle : Worker
    pub read : IsPhaseAs board.frame root Never old.me middle.me
    pub armed : IsArmedSo board root answer middle new

  -- this item, or none, was taken from the root's home, and then the root was finished
  pub record LetsGo (old new : Worker) (cargo : Ghosts Item Entry ℕ) : Type 0 where
    pub item : Option Item
    pub middle : Worker
    pub taken : IsTakenOut board.frame root item old.me middle.me
    pub finished : Finished board root middle new cargo

module _ (board : Board ℕ) where
  -- the hand requested a stop of the scope, and ran so many callbacks of the scan that this gave:
  -- all that it came to
  pub record AskedAndRan (count : ℕ) (old new : Worker) : Type 0 where
    pub scan : Scan
    pub asked : Worker
    pub requested : IsRequested board Scope (Made scan) old asked
    pub ran : RunsOut board count scan asked new
    pub went_on : GoesOn asked.me new.me

  -- so many it ran where it answers a count; else a stop was requested before
  abbrev pub AsksAll : Option ℕ → Worker → Worker → Type 0
  AsksAll (Some count) old new = AskedAndRan count old new
  AsksAll None old new = IsRequested board Scope Already old new

module _ (board : Board ℕ) (root : Name) where
  -- the scan came to a place; inside its run the root's callback was tried to be removed, with this
  -- answer, and then the run ended
  pub record TriedInside (before after : Scan) (answer : Withdrawn)
      (old new : Worker) : Type 0 where
    pub place : Name
    pub running : Worker
    pub found : IsFound board before old running after place
    pub tried : Worker
    pub answered : IsTried board root running tried answer
    pub over : IsOver board place tried new

  -- so it was where the removal was answered; else the scan came to no place
  abbrev pub RemovesNext : Scan → Scan → Option Withdrawn → Worker → Worker → Type 0
  RemovesNext before after (Some answer) old new = TriedInside before after answer old new
  RemovesNext before after None old new = IsThrough board before old new after

  -- the hand requested a stop of the scope, the first place of its scan brought this, and it ran so
  -- many callbacks more, all that the scan came to
  pub record RemovedInside (answer : Option Withdrawn) (count : ℕ) (old new : Worker) : Type 0 where
    pub scan : Scan
    pub asked : Worker
    pub requested : IsRequested board Scope (Made scan) old asked
    pub after : Scan
    pub left : Worker
    pub next : RemovesNext scan after answer asked left
    pub ran : RunsOut board count after left new
    pub went_on : GoesOn left.me new.me

  -- so it did where the removal was answered; else a stop was requested before, or the scan came to
  -- no place
  abbrev pub RemovesInside : Option (Withdrawn × ℕ) → Worker → Worker → Type 0
  RemovesInside (Some answers) old new = RemovedInside (Some answers.0) answers.1 old new
  RemovesInside None old new =
      IsRequested board Scope Already old new ⊎ ((count : ℕ) × RemovedInside None count old new)
