-- What follows from the rule that holds between any two steps of any hands, in every table that
-- keeps it.
use Rattle.std.specs.Prelude.{◌≡◌, ◌≢◌, ℕ, ◌≤◌, true, false, ◌||◌, Option, Some}
use mathlib.Core.Option.{some}
use lib.ListN.{get_elem?}
use Rattle.life_rules.specs.declared.event.Name.{Name}
use Rattle.life_rules.specs.declared.event.Resting.{Resting}
use Rattle.life_rules.specs.declared.event.SourceRef.{SourceRef}
use Rattle.node_tree.specs.Tree.{is_child}
use Rattle.life_rules.specs.Words.{is_idle, is_done, is_armed}
use Rattle.life_rules.specs.Views.{beside}
use Rattle.life_rules.specs.States.{control_at, phase_at, bits_at, nearest_of}
use Rattle.life_rules.specs.Quiet.{Quiet}
use Rattle.table_words.specs.Layouts.{OfControl, OfCallback, IsSpot}
use Rattle.atomic_table.specs.Table as table
use Rattle.atomic_table.specs.declared.shared.Seat.{Seat}
use Rattle.table_rules.specs.declared.cargo.Cargo.{Ghosts}
use Rattle.table_rules.specs.declared.frame.Frame.{Frame}
use Rattle.table_rules.specs.declared.view.View.{View}
use Rattle.table_rules.specs.Named.{count_by}
use Rattle.table_rules.specs.ShownViews.{has_name}
use Rattle.table_rules.specs.ShownWords.{word_of, scope_of}
use Rattle.table_rules.specs.Scenes.{shown}
use Rattle.table_rules.specs.Running.{Running}
use Rattle.table_steps.specs.Views.{Board, IsPlaceIn, knows}
use Rattle.table_steps.specs.Seats.{Seated, view_of}
use Rattle.table_steps.specs.Readings.{above_it}
use Rattle.table_steps.specs.Begins.{CanBegin}
use Rattle.table_steps.specs.Rests.{CanLeave}
use Rattle.table_steps.specs.Takes.{rest_word}
use Rattle.table_steps.specs.Reports.{CanReport}
use Rattle.table_steps.specs.Finishes.{CanEnd}
use Rattle.table_steps.specs.Releases.{CanReleaseBlock}
use Rattle.table_laws.specs.Listed.{lists_over, RunsNoMore, EndsIt, GrewFrom}

-- the hand with this number has this view
abbrev pub Has : {P E : Type 0} → table.State (Option P) (View P E) → ℕ → View P E → Type 0
Has s h v = get_elem? s.views h ≡ some v

-- the hand runs x's callback once, no other hand runs it, and none lists that it ran or was
-- removed
pub record IsOnlyRun {P E O : Type 0} (f : Frame O) (s : table.State (Option P) (View P E)) (h : ℕ)
    (v : View P E) (x : Name) : Type 0 where
  pub once : count_by (λ y. y) v.runs x ≡ 1
  pub alone : (j : ℕ) (u : View P E) → Has s j u → j ≢ h → count_by (λ y. y) u.runs x ≡ 0
  pub first : (j : ℕ) (u : View P E) → Has s j u → lists_over f.layout u x ≡ false

module _ {P E O : Type 0} (cargo : Ghosts P E O) where
  -- no hand holds the node or owes its start, and no call may write its control word
  pub record IsOver (f : Frame O) (s : table.State (Option P) (View P E)) (x : Name) : Type 0 where
    pub unheld : (h : ℕ) (v : View P E) → Has s h v → count_by (λ e. e.name) v.held x ≡ 0
    pub unowed : (h : ℕ) (v : View P E) → Has s h v → count_by (λ e. e.name) v.owed x ≡ 0
    -- no hand may begin it
    pub begin : (h : ℕ) (m : Seated P E) → Has s h (view_of m) → ¬ CanBegin cargo f m x
    -- no hand may await its children, leave it at rest, park it or finish it
    pub leave : (h : ℕ) (m : Seated P E) → Has s h (view_of m) → ¬ CanLeave f m x
    -- no hand may report a child of it
    pub report : (h : ℕ) (v : View P E) (child : Name) → Has s h v → above_it f.tree child ≡ x →
        ¬ CanReport f.tree v child
    -- its word is none that `take`, `take_parked` or `rouse` looks for
    pub rest : (from : Resting) →
        word_of f.layout s.words (OfControl x.block x.node) ≢ rest_word x from

  -- a node that is done is over: as long as its block isn't given back, no call may move it again
  abbrev pub DoneIsOver : Type 0
  DoneIsOver =
      (f : Frame O) (s : table.State (Option P) (View P E)) → Running cargo f s → (x : Name) →
      is_done (control_at (shown f s) x) ≡ true → IsOver f s x

  -- where a hand may finish a node, each child that has begun is done, and no hand owes its report
  abbrev pub ParentsWait : Type 0
  ParentsWait =
      (f : Frame O) (s : table.State (Option P) (View P E)) → Running cargo f s →
      (h : ℕ) (m : Seated P E) (x : Name) (n : ℕ) → Has s h (view_of m) → CanEnd cargo f m x →
      is_child f.tree x.node n ≡ true → is_idle (control_at (shown f s) (beside x n)) ≡ false →
      (is_done (control_at (shown f s) (beside x n)) ≡ true)
      × ((j : ℕ) (u : View P E) → Has s j u → count_by (λ e. e.name) u.reported (beside x n) ≡ 0)

  -- where a hand may give a block back, nothing touches the block any more
  abbrev pub ReleasesQuiet : Type 0
  ReleasesQuiet =
      (f : Frame O) (s : table.State (Option P) (View P E)) → Running cargo f s →
      (h : ℕ) (m : Seated P E) (block generation : ℕ) → Has s h (view_of m) →
      CanReleaseBlock f block generation m → Quiet (shown f s) block

  -- a callback never runs again at its generation while some hand lists that it ran or was
  -- removed
  abbrev pub NeverAgain : Type 0
  NeverAgain =
      (f : Frame O) (s : table.State (Option P) (View P E)) → Running cargo f s →
      (h : ℕ) (v : View P E) (x : Name) → Has s h v → IsSpot f.layout (OfCallback x.block x.node) →
      lists_over f.layout v x ≡ true → RunsNoMore f s x

  -- a callback runs at most once at its generation, by one hand
  abbrev pub RunsOnce : Type 0
  RunsOnce =
      (f : Frame O) (s : table.State (Option P) (View P E)) → Running cargo f s →
      (h : ℕ) (v : View P E) (x : Name) → Has s h v → 1 ≤ count_by (λ y. y) v.runs x →
      IsOnlyRun f s h v x

  -- once a source was scanned, of each armed callback that is registered there some hand has still
  -- to look whether a stop is requested, or has seen after the arming that it is
  abbrev pub MissesNone : Type 0
  MissesNone =
      (f : Frame O) (s : table.State (Option P) (View P E)) → Running cargo f s →
      (source : SourceRef) (x : Name) → (bits_at (shown f s) source).scanned ≡ true →
      nearest_of (shown f s) x ≡ Some source → is_armed (phase_at (shown f s) x) ≡ true →
      (h : ℕ) × (v : View P E) × Has s h v
      × ((has_name v.unlooked x || has_name v.seen_after x) ≡ true)

  -- in a joined scope each association of any hand is one that is being refused
  abbrev pub JoinedIsEmpty : Type 0
  JoinedIsEmpty =
      (f : Frame O) (s : table.State (Option P) (View P E)) → Running cargo f s →
      (scope_of f.layout s.words).joined ≡ true → (h : ℕ) (v : View P E) → Has s h v →
      (v.made ≡ 0) × (v.making ≡ 0)

  -- a callback that was removed, or was found to have run, never runs again at its generation: in
  -- every table in which the hand that removed it still lists that step
  abbrev pub RemovedForGood : Type 0
  RemovedForGood =
      (board : Board O) (x : Name) (old new : Seat (Option P) (View P E)) → IsPlaceIn board x →
      EndsIt board x old new → (s : table.State (Option P) (View P E)) →
      Running cargo board.frame s →
      (h : ℕ) (v : View P E) → Has s h v → GrewFrom (knows new).steps v.steps →
      RunsNoMore board.frame s x
