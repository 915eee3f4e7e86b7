-- A call's step on a stop source's word is one move of the pure machine.
use Rattle.std.specs.Prelude.{◌≡◌, ℕ, Bool, true, false, if◌then◌else◌, Option, Some, None}
use Rattle.life_rules.specs.declared.words.Bits.{Bits}
use Rattle.life_rules.specs.declared.event.Name.{Name}
use Rattle.life_rules.specs.declared.event.Place.{Place}
use Rattle.life_rules.specs.declared.event.SourceRef.{SourceRef}
use Rattle.life_rules.specs.declared.event.Event.TheVariants.{Look, Request, SealScan}
use Rattle.life_rules.specs.States.{State}
use Rattle.life_rules.specs.Steps.{Step}
use Rattle.table_words.specs.Layouts.{index}
use Rattle.atomic_table.specs.Table as table
use Rattle.atomic_table.specs.declared.shared.Seat.{Seat}
use Rattle.table_rules.specs.declared.cargo.Cargo.{Ghosts}
use Rattle.table_rules.specs.declared.view.View.{View}
use Rattle.table_rules.specs.ShownWords.{is_present, is_present_source}
use Rattle.table_rules.specs.Scenes.{shown}
use Rattle.table_rules.specs.Running.{Running}
use Rattle.table_steps.specs.Views.{Board, knows}
use Rattle.table_steps.specs.Requests.{IsAsked, MayRequest}
use Rattle.table_steps.specs.ScanSeals.{CanSealScan, IsScanSealed}
use Rattle.table_steps.specs.Sights.{spot_of, IsSourceIn, IsLookedAt, MayLookAfter}
use Rattle.table_moves.specs.Moves.{HasStepped, IsMove, place_of}
use Rattle.table_moves.specs.ScanMoves.{source_at}

-- where the node is that a look is after, if its block is still of its generation
abbrev pub place_after : State → Option Name → Option Place
place_after s None = None
place_after s (Some x) = if is_present s.block x then Some (place_of x) else None

-- a look at a source of the present is the move, and one at an older source moves nothing
pub record IsLookMove (before : State) (id : ℕ) (source : SourceRef) (after : Option Name)
    (later : State) : Type 0 where
  pub present : is_present_source before.block source ≡ true →
      Step before id (Look (source_at source) (place_after before after)) later
  pub past : is_present_source before.block source ≡ false → later ≡ before

module _ {P E O : Type 0} (cargo : Ghosts P E O) where
  -- the word that a look read
  abbrev pub look_word : (board : Board O) (source : SourceRef) (after : Option Name)
      (answer : Bool) (old new : Seat (Option P) (View P E)) →
      IsLookedAt board source after answer old new → ℕ
  look_word board source after answer old new (word, _, _) = word

  -- where a hand looks whether a stop is requested
  abbrev pub LooksByMove : Type 0
  LooksByMove =
      (board : Board O) (source : SourceRef) (after : Option Name) (answer : Bool)
      (old new : Seat (Option P) (View P E)) →
      IsSourceIn board source → MayLookAfter board.frame.tree (knows old) source after →
      (did : IsLookedAt board source after answer old new) →
      (s s' : table.State (Option P) (View P E)) → Running cargo board.frame s →
      HasStepped (index board.frame.layout (spot_of source))
      (look_word board source after answer old new did)
      (look_word board source after answer old new did) old.id (knows old) (knows new) s s' →
      IsLookMove (shown board.frame s) old.id source after (shown board.frame s')

  -- where a stop is requested
  abbrev pub RequestsByMove : Type 0
  RequestsByMove =
      (board : Board O) (source : SourceRef) (failure : Bool) (answer : Bits)
      (old new : Seat (Option P) (View P E)) →
      IsSourceIn board source → MayRequest cargo board.frame (knows old) source failure →
      (did : IsAsked board source failure answer old new) →
      IsMove cargo board.frame old.id (knows old) (knows new)
      (index board.frame.layout (spot_of source)) did.word did.left
      (Request (source_at source) failure)

  -- where a scan is sealed
  abbrev pub SealsScanByMove : Type 0
  SealsScanByMove =
      (board : Board O) (source : SourceRef) (old new : Seat (Option P) (View P E)) →
      IsSourceIn board source →
      CanSealScan board.frame (knows old) source → (did : IsScanSealed board source old new) →
      IsMove cargo board.frame old.id (knows old) (knows new)
      (index board.frame.layout (spot_of source)) did.read did.left
      (SealScan (source_at source))
