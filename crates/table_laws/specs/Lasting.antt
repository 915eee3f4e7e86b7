-- What follows after a call, in every table that keeps the rule and in which the hand still lists
-- the step that the call made: whatever steps the hands made since.
use Rattle.std.specs.Prelude.{◌≡◌, ℕ, true, ◌||◌, Option, Some, Ok}
use Rattle.life_rules.specs.declared.event.Name.{Name}
use Rattle.life_rules.specs.declared.event.SourceRef.{SourceRef}
use Rattle.life_rules.specs.declared.scope.ScopeWord.{ScopeWord}
use Rattle.life_rules.specs.Words.{is_done, is_armed}
use Rattle.life_rules.specs.States.{is_live, control_at, phase_at, nearest_of}
use Rattle.atomic_table.specs.Table as table
use Rattle.atomic_table.specs.declared.shared.Seat.{Seat}
use Rattle.table_rules.specs.declared.cargo.Cargo.{Ghosts}
use Rattle.table_rules.specs.declared.frame.Frame.{Frame}
use Rattle.table_rules.specs.declared.view.View.{View}
use Rattle.table_rules.specs.Grown.{KeepsBits}
use Rattle.table_rules.specs.ShownViews.{has_name}
use Rattle.table_rules.specs.ShownWords.{scope_of}
use Rattle.table_rules.specs.Scenes.{shown}
use Rattle.table_rules.specs.Running.{Running}
use Rattle.table_steps.specs.Views.{Board, IsPlaceIn, knows}
use Rattle.table_steps.specs.Steps.{Finished}
use Rattle.table_steps.specs.Sights.{IsSourceIn}
use Rattle.table_steps.specs.ScanSeals.{IsScanSealed}
use Rattle.table_steps.specs.ScopeMoves.{IsMade, IsSealedAs}
use Rattle.table_laws.specs.Listed.{GrewFrom}
use Rattle.table_laws.specs.Laws.{Has, IsOver}

-- some hand has these steps in its list, and maybe newer ones
pub record StillLists {P E : Type 0} (steps : Seat (Option P) (View P E))
    (s : table.State (Option P) (View P E)) : Type 0 where
  pub hand : ℕ
  pub view : View P E
  pub at : Has s hand view
  pub grew : GrewFrom (knows steps).steps view.steps

-- of the armed callback some hand has still to look whether a stop is requested, or has seen after
-- the arming that it is
pub record IsMinded {P E : Type 0} (s : table.State (Option P) (View P E)) (x : Name) : Type 0 where
  pub hand : ℕ
  pub view : View P E
  pub at : Has s hand view
  pub minds : (has_name view.unlooked x || has_name view.seen_after x) ≡ true

-- no hand has an association but such as is being refused
pub record IsEmptied {P E O : Type 0} (f : Frame O)
    (s : table.State (Option P) (View P E)) : Type 0 where
  pub joined : (scope_of f.layout s.words).joined ≡ true
  pub made : (h : ℕ) (v : View P E) → Has s h v → v.made ≡ 0
  pub making : (h : ℕ) (v : View P E) → Has s h v → v.making ≡ 0

module _ {P E O : Type 0} (cargo : Ghosts P E O) where
  -- the node is over, whether its block is open still or was given back, and done as long as it is
  -- open
  pub record IsOverForGood (f : Frame O) (s : table.State (Option P) (View P E))
      (x : Name) : Type 0 where
    pub done : is_live (shown f s) x ≡ true → is_done (control_at (shown f s) x) ≡ true
    pub over : IsOver cargo f s x

  -- a node that was finished is done for good at its generation
  abbrev pub DoneForGood : Type 0
  DoneForGood =
      (board : Board O) (x : Name) (old new : Seat (Option P) (View P E)) → IsPlaceIn board x →
      Finished board x old new cargo → (s : table.State (Option P) (View P E)) →
      Running cargo board.frame s → StillLists new s → IsOverForGood board.frame s x

  -- once a scan was sealed, no armed callback of its source is missed
  abbrev pub SealMissesNone : Type 0
  SealMissesNone =
      (board : Board O) (source : SourceRef) (old new : Seat (Option P) (View P E)) →
      IsSourceIn board source → IsScanSealed board source old new →
      (s : table.State (Option P) (View P E)) → Running cargo board.frame s → StillLists new s →
      (x : Name) → nearest_of (shown board.frame s) x ≡ Some source →
      is_armed (phase_at (shown board.frame s) x) ≡ true → IsMinded s x

  -- the scope's word has each bit that some hand's step read or left there
  abbrev pub BitsStay : Type 0
  BitsStay =
      (f : Frame O) (s : table.State (Option P) (View P E)) → Running cargo f s → (h : ℕ)
      (v : View P E) → Has s h v → KeepsBits v.steps (scope_of f.layout s.words)

  -- so a scope that was sealed is joined for good, and empty
  abbrev pub SealedIsEmpty : Type 0
  SealedIsEmpty =
      (expected : ScopeWord) (old new : Seat (Option P) (View P E)) →
      IsSealedAs expected (Ok tt) old new → (f : Frame O) (s : table.State (Option P) (View P E)) →
      Running cargo f s → StillLists new s → IsEmptied f s

  -- and one in which an association was made is never unused again
  abbrev pub MadeIsUsed : Type 0
  MadeIsUsed =
      (old new : Seat (Option P) (View P E)) → IsMade old new → (f : Frame O)
      (s : table.State (Option P) (View P E)) → Running cargo f s → StillLists new s →
      (scope_of f.layout s.words).used ≡ true
