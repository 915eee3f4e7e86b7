-- How a scan of a stop source passes places, step by step.
use Rattle.std.specs.Prelude.{◌≡◌, ◌⊎◌, ℕ, zero, suc, ◌+◌, ◌<◌, ◌≤◌, Bool, true, false, List, ◌∷◌, length, Option, Some, None, MatchOption}
use Rattle.life_rules.specs.declared.event.Name.{Name}
use Rattle.life_rules.specs.declared.event.SourceRef.{SourceRef}
use Rattle.life_rules.specs.declared.event.SourceRef.TheVariants.{Scope, Node}
use Rattle.atomic_table.specs.declared.shared.Seat.{Seat}
use Rattle.table_rules.specs.declared.view.View.{View}
use Rattle.listed_words.specs.declared.seen.Seen.{Seen}
use Rattle.table_steps.specs.Views.{Board, knows}
use Rattle.table_steps.specs.Runs.{CanRun, HasPassed, HasRun}
use Rattle.table_steps.specs.RunEnds.{passes_to, number_of}
use Rattle.table_steps.specs.ScanOrders.{is_next_place}
use Rattle.table_steps.specs.Skips.{CanSkip, IsSkipped}
use Rattle.table_steps.specs.ScanSeals.{CanSealScan}
use Rattle.stop_calls.specs.declared.scanning.Scan.{Scan}
use Rattle.stop_calls.specs.declared.dues.Due.{Due}
use Rattle.stop_calls.specs.Cursors.{cursor, Stands}
use Rattle.table_steps.specs.Seats.{homes_of}

-- a call may look at a place's callback: of the scope's source where it last read the place's
-- block, as not free; of a node's always, since its block can't go away
abbrev pub MayTry : SourceRef → Option ℕ → ℕ → Type 0
MayTry Scope read block = read ≡ Some block
MayTry (Node y) read block = Unit {0}

-- the view with its scan of the source going on from there, with these runs and these steps
abbrev pub scanning_at : {P E : Type 0} → SourceRef → ℕ → List Name → List Seen → View P E →
    View P E
scanning_at source next runs steps v =
    record v { runs = runs; scans = passes_to source next v.scans; steps = steps }

-- The steps of one call of a scan. `read` is the block that the call last read as not free, `read'`
-- the same after the step.
module _ {P E O : Type 0} (board : Board O) (source : SourceRef) (read read' : Option ℕ)
    (old new : Seat (Option P) (View P E)) where
  -- the scan is of the scope's source, and its next place lies in this block, whose word was read
  pub record ReadsBlock (block : ℕ) (free : Bool) : Type 0 where
    pub scope : source ≡ Scope
    pub within : block < board.frame.layout.blocks
    pub next : CanSkip board.frame.tree (knows old) block
    pub told : IsSkipped board block free old new

  -- it was free: all its places are passed
  pub record PassesBlock (block : ℕ) : Type 0 where
    pub reads : ReadsBlock block true
    pub read_is : read' ≡ read

  -- it wasn't free: nothing is passed
  pub record EntersBlock (block : ℕ) : Type 0 where
    pub reads : ReadsBlock block false
    pub read_is : read' ≡ Some block

  -- the next place of the scan was read as not armed, and is passed
  pub record PassesPlace : Type 0 where
    pub block : ℕ
    pub node : ℕ
    pub within : block < board.frame.layout.blocks
    pub next : CanRun board.frame.tree (knows old) source block node
    pub may : MayTry source read block
    pub told : HasPassed board source block node old new
    pub read_is : read' ≡ read

  abbrev pub Passes : Type 0
  Passes = ((block : ℕ) × PassesBlock block) ⊎ (((block : ℕ) × EntersBlock block) ⊎ PassesPlace)

module _ {P E O : Type 0} (board : Board O) (source : SourceRef) where
  -- so many steps of a call, the first with no block read yet
  abbrev pub Walks : ℕ → Option ℕ → Seat (Option P) (View P E) → Seat (Option P) (View P E) → Type 0
  Walks zero read old new = (read ≡ None) × (new.me ≡ old.me)
  Walks (suc count) read old new =
      (before : Option ℕ) × (middle : Seat (Option P) (View P E)) × Walks count before old middle
      × Passes board source before read middle new

-- What a scan's next tells, where it was so before.
module _ {P E O : Type 0} (board : Board O) (before : Scan)
    (old new : Seat (Option P) (View P E)) where
  -- after some steps by which places were passed, the next place of the scan was armed and runs
  -- now. The view's scan stands at it, and this one goes on behind it
  pub record IsFound (after : Scan) (x : Name) : Type 0 where
    pub count : ℕ
    pub read : Option ℕ
    pub middle : Seat (Option P) (View P E)
    pub passed : Walks board before.source count read old middle
    pub may : MayTry before.source read x.block
    pub begun : HasRun board before.source x.block x.node x middle new
    pub at : ℕ
    pub steps : List Seen
    pub me_is : new.me ≡ (
      scanning_at before.source at (x ∷ (knows old).runs) steps (knows old),
      homes_of old.me,
    )
    pub block : x.block < board.frame.layout.blocks
    pub within : x.node < length board.frame.tree
    pub is_next : is_next_place board.frame.tree before.source at x.block x.node ≡ true
    pub forward : cursor board.frame.tree before ≤ number_of board.frame.tree x
    pub goes_on : cursor board.frame.tree after ≡ number_of board.frame.tree x + 1
    pub inside : after.node ≤ length board.frame.tree

  -- after some steps by which places were passed none is left. The scan stands there, and may be
  -- sealed
  pub record IsThrough (after : Scan) : Type 0 where
    pub count : ℕ
    pub read : Option ℕ
    pub passed : Walks board before.source count read old new
    pub at : ℕ
    pub steps : List Seen
    pub me_is : new.me ≡ (
      scanning_at before.source at (knows old).runs steps (knows old),
      homes_of old.me,
    )
    pub stands : Stands board.frame.tree after (knows new)
    pub none_left : CanSealScan board.frame (knows new) before.source

  abbrev pub IsScanned : Scan → Option Due → Type 0
  IsScanned after answer = MatchOption answer (IsThrough after) (λ due. IsFound after due.place)
