-- What a hand needs to run or pass the next place of its scan ([stopcallback]), and what that does
-- to it.
use Rattle.std.specs.Prelude.{◌≡◌, ◌≢◌, ℕ, ◌+◌, ◌*◌, ◌<◌, Bool, true, false, ◌&&◌, ◌==◌, if◌then◌else◌, List, [], ◌∷◌, length, Option, Some, MatchOption}
use Rattle.std.specs.List.{list_any}
use Rattle.node_tree.specs.declared.node.TreeNode.{TreeNode}
use Rattle.life_rules.specs.declared.words.CallbackPhase.TheVariants.{Running}
use Rattle.life_rules.specs.declared.event.Name.{Name}
use Rattle.life_rules.specs.declared.event.SourceRef.{SourceRef}
use Rattle.node_tree.specs.Tree.{nearest}
use Rattle.life_rules.specs.Words.{is_armed}
use Rattle.life_rules.specs.States.{source_for}
use Rattle.table_words.specs.Stamps.{stamp_of}
use Rattle.table_words.specs.Controls.{callback_read}
use Rattle.table_words.specs.Layouts.{OfCallback, index}
use Rattle.atomic_table.specs.Table.{Step}
use Rattle.atomic_table.specs.declared.shared.Seat.{Seat}
use Rattle.listed_words.specs.declared.seen.Seen.{Seen}
use Rattle.listed_words.specs.Lists.{entry}
use Rattle.table_rules.specs.declared.view.View.{View}
use Rattle.table_rules.specs.Named.{Each}
use Rattle.table_rules.specs.ShownViews.{scan_in}
use Rattle.table_steps.specs.Views.{Board, knows}
use Rattle.table_steps.specs.Claims.{with_step, logged}
use Rattle.table_steps.specs.Seats.{Seated, homes_of, view_of}
use Rattle.table_steps.specs.Lefts.{SaysCallback}
use Rattle.table_steps.specs.Slots.{Aim}
use Rattle.table_steps.specs.RunEnds.{passes_to}
use Rattle.table_steps.specs.ScanOrders.{is_next_place}

-- the hand scans the source, this is the next place of that scan, and the hand doesn't run its
-- callback
pub record CanRun {P E : Type 0} (tree : List TreeNode) (v : View P E) (source : SourceRef)
    (block node : ℕ) : Type 0 where
  pub from : ℕ
  pub scans : scan_in v.scans source ≡ Some from
  pub within : node < length tree
  pub next : is_next_place tree source from block node ≡ true
  pub unrun : list_any (λ y. y.block == block && y.node == node) v.runs ≡ false

-- the hand runs the callback, innermost
abbrev pub runs_place : {P E : Type 0} → Name → View P E → View P E
runs_place x v = record v { runs = x ∷ v.runs }

-- its scan has passed the place
abbrev pub passes_place : {P E : Type 0} → List TreeNode → SourceRef → ℕ → ℕ → View P E → View P E
passes_place tree source block node v =
    record v { scans = passes_to source (block * length tree + node + 1) v.scans }

-- the callback word says armed, at whatever generation
abbrev pub says_armed : ℕ → Bool
says_armed word = is_armed (callback_read word)

-- the place, whatever its generation
abbrev pub place_named : ℕ → ℕ → Name
place_named block node = record { block = block; generation = 0; node = node }

-- the place's node, at the generation of this word
abbrev pub node_named : ℕ → ℕ → ℕ → Name
node_named block node word = record { block = block; generation = stamp_of word; node = node }

-- the callback of x is registered on the source, and those that the hand runs in the block of x are
-- of x's generation
pub record IsOfScan {P E : Type 0} (tree : List TreeNode) (v : View P E) (source : SourceRef)
    (x : Name) : Type 0 where
  pub nearest_is : source_for x (nearest tree x.node) ≡ Some source
  pub beside_it : Each (λ y. y.block ≡ x.block → y.generation ≡ x.generation) v.runs

-- words that exchanges found after this one, the oldest first: each armed, and of a later
-- generation than the one before
abbrev pub AreTries : ℕ → List ℕ → Type 0
AreTries word [] = Unit {0}
AreTries word (next ∷ later) = (says_armed next ≡ true) × (stamp_of word < stamp_of next)
    × AreTries next later

-- words that a step read while the place was armed, the oldest first
abbrev pub AreArmed : List ℕ → Type 0
AreArmed [] = Unit {0}
AreArmed (word ∷ later) = (says_armed word ≡ true) × AreTries word later

-- the newest of this word and those after it
abbrev pub last_of : ℕ → List ℕ → ℕ
last_of word [] = word
last_of word (next ∷ later) = last_of next later

-- the list of steps, after these words were read under this index, and stayed, the oldest first
abbrev pub listed : ℕ → List ℕ → List Seen → List Seen
listed i [] steps = steps
listed i (word ∷ later) steps = listed i later (entry i word word ∷ steps)

-- the view lists these steps too, and nothing else of it changed
abbrev pub reads_on : {P E : Type 0} → ℕ → List ℕ → View P E → View P E
reads_on i words v = record v { steps = listed i words v.steps }

-- the newest step of the list read this word under this index, and left it
pub record IsNewest {P E : Type 0} (i word : ℕ) (v : View P E) : Type 0 where
  pub earlier : List Seen
  pub steps_are : v.steps ≡ entry i word word ∷ earlier

-- what the word that was read tells the hand: a place that isn't armed is passed
abbrev pub meets_at : {P E : Type 0} → Aim → SourceRef → ℕ → ℕ → Seated P E → Seated P E
meets_at aim source i word m = (
  logged i word (if says_armed word then view_of m
      else passes_place aim.tree source aim.name.block aim.name.node (view_of m)),
  homes_of m,
)

-- the exchange of a word that was read as armed found that word: the hand runs the callback of its
-- generation. Or it found another: one that isn't armed passes the place, and one that is armed is
-- of a later generation
abbrev pub RunsAt : {P E : Type 0} → Aim → SourceRef → Step (Option P) → Seated P E → ℕ →
    Seated P E → Type 0
RunsAt aim source step m found m' =
    (found ≡ step.first →
    (m' ≡ (
      with_step step.word found step.second
          (runs_place (node_named aim.name.block aim.name.node found) (view_of m)),
      homes_of m,
    ))
    × IsOfScan aim.tree (view_of m) source (node_named aim.name.block aim.name.node found))
    × (found ≢ step.first →
    (m' ≡ meets_at aim source step.word found m)
    × (says_armed found ≡ true → stamp_of step.first < stamp_of found))

-- the index of the place's callback word
abbrev pub run_index : {O : Type 0} → Board O → ℕ → ℕ → ℕ
run_index board block node = index board.frame.layout (OfCallback block node)

module _ {P E O : Type 0} (board : Board O) (source : SourceRef) (block node : ℕ) where
  -- after this word was read as armed, an exchange found the word that was read last once more, and
  -- won: the hand runs the callback of that generation
  pub record RanFrom (word : ℕ) (name : Name) (old new : Seat (Option P) (View P E)) : Type 0 where
    pub tries : List ℕ
    pub later : AreTries word tries
    pub name_is : name ≡ node_named block node (last_of word tries)
    pub of_scan : IsOfScan board.frame.tree (knows old) source name
    pub left : ℕ
    pub says : SaysCallback name Running left
    pub me_is : new.me ≡ (
      with_step (run_index board block node) (last_of word tries) left
          (runs_place name (reads_on (run_index board block node) tries (knows old))),
      homes_of old.me,
    )

  -- or the newest step read a word that isn't armed, and the scan has passed the place
  pub record PassedFrom (word : ℕ) (old new : Seat (Option P) (View P E)) : Type 0 where
    pub tries : List ℕ
    pub later : AreTries word tries
    pub last : ℕ
    pub unarmed : says_armed last ≡ false
    pub me_is : new.me ≡ (
      logged (run_index board block node) last
          (passes_place board.frame.tree source block node
          (reads_on (run_index board block node) tries (knows old))),
      homes_of old.me,
    )

  abbrev pub IsRunFrom : ℕ → Option Name → Seat (Option P) (View P E) → Seat (Option P) (View P E) →
      Type 0
  IsRunFrom word answer old new = MatchOption answer (PassedFrom word old new)
      (λ name. RanFrom word name old new)

  -- the steps read these words as armed, and then an exchange found the last of them once more, and
  -- won: the hand runs the callback of that generation, innermost
  pub record HasRun (name : Name) (old new : Seat (Option P) (View P E)) : Type 0 where
    pub word : ℕ
    pub armed : says_armed word ≡ true
    pub tries : List ℕ
    pub later : AreTries word tries
    pub name_is : name ≡ node_named block node (last_of word tries)
    pub of_scan : IsOfScan board.frame.tree (knows old) source name
    pub left : ℕ
    pub says : SaysCallback name Running left
    pub me_is : new.me ≡ (
      with_step (run_index board block node) (last_of word tries) left
          (runs_place name (reads_on (run_index board block node) (word ∷ tries) (knows old))),
      homes_of old.me,
    )

  -- the steps read these words as armed, and the newest one that isn't: the scan has passed the
  -- place
  pub record HasPassed (old new : Seat (Option P) (View P E)) : Type 0 where
    pub words : List ℕ
    pub armed : AreArmed words
    pub last : ℕ
    pub unarmed : says_armed last ≡ false
    pub me_is : new.me ≡ (
      logged (run_index board block node) last
          (passes_place board.frame.tree source block node
          (reads_on (run_index board block node) words (knows old))),
      homes_of old.me,
    )

  -- a name where the hand runs the place's callback, at that generation; none where its scan has
  -- passed it
  abbrev pub IsRun : Option Name → Seat (Option P) (View P E) → Seat (Option P) (View P E) → Type 0
  IsRun answer old new = MatchOption answer (HasPassed old new) (λ name. HasRun name old new)
