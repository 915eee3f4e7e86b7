-- Which steps the calls of the table list. A hand's list grows by its own steps alone, each listed
-- by the step itself: so what a call lists is what it did, and a body that makes no step, one step
-- more, or one on another word, doesn't do what its call says.
use Rattle.std.specs.Prelude.{◌≡◌, ◌⊎◌, ℕ, Bool, true, false, List, ◌∷◌, ◌++◌, All, Option, Result}
use Rattle.life_rules.specs.declared.event.Name.{Name}
use Rattle.life_rules.specs.declared.event.Resting.{Resting}
use Rattle.life_rules.specs.declared.event.SourceRef.{SourceRef}
use Rattle.life_rules.specs.declared.scope.ScopeWord.{ScopeWord}
use Rattle.life_rules.specs.declared.words.Bits.{Bits}
use Rattle.life_rules.specs.declared.words.CallbackPhase.{CallbackPhase}
use Rattle.life_rules.specs.declared.words.ControlWord.{ControlWord}
use Rattle.node_tree.specs.Tree.{has_source}
use Rattle.table_words.specs.Layouts.{OfControl, index}
use Rattle.atomic_table.specs.declared.shared.Seat.{Seat}
use Rattle.listed_words.specs.declared.seen.Seen.{Seen}
use Rattle.listed_words.specs.Lists.{entry}
use Rattle.table_rules.specs.declared.cargo.Cargo.{Ghosts}
use Rattle.table_rules.specs.declared.view.View.{View}
use Rattle.table_steps.specs.declared.block.Block.{Block}
use Rattle.table_steps.specs.declared.report.Report.{Report}
use Rattle.table_steps.specs.Views.{Board, aim_at}
use Rattle.table_steps.specs.Claims.{IsAnswer, word_index}
use Rattle.table_steps.specs.Seats.{Seated, view_of}
use Rattle.table_steps.specs.Begins.{source_index}
use Rattle.table_steps.specs.Callbacks.{IsArmed, IsWithdrawn, callback_index}
use Rattle.table_steps.specs.Looks.{IsReadAs}
use Rattle.table_steps.specs.Readings.{IsBegunAs, IsPhaseAs, above_it}
use Rattle.table_steps.specs.Reports.{IsReportedAs}
use Rattle.table_steps.specs.Requests.{IsAsked}
use Rattle.table_steps.specs.Rouses.{IsRoused}
use Rattle.table_steps.specs.RunEnds.{IsRunEnded, IsOwnWithdrawn}
use Rattle.table_steps.specs.Runs.{IsRun, run_index}
use Rattle.table_steps.specs.ScanSeals.{IsScanSealed}
use Rattle.table_steps.specs.ScopeEntries.{IsEntered}
use Rattle.table_steps.specs.ScopeMoves.{IsMade, IsSealedAs, MovesScope, ReadsScope, with_one_less, leaves_scope}
use Rattle.table_steps.specs.ScopeSets.{SetsScope}
use Rattle.table_steps.specs.Sights.{IsLookedAt, spot_of}
use Rattle.table_steps.specs.Skips.{IsSkipped}
use Rattle.table_steps.specs.Steps.{control_index, Begun, Rested, Finished, Awaited, Released}
use Rattle.table_steps.specs.Swaps.{IsSwapped}
use Rattle.table_steps.specs.Takes.{IsTaken}

-- the list grew by one step, on the word of this index
pub record ListsOne {P E : Type 0} (at : ℕ) (m m' : Seated P E) : Type 0 where
  pub read : ℕ
  pub left : ℕ
  pub steps_are : (view_of m').steps ≡ entry at read left ∷ (view_of m).steps

-- it grew by two
pub record ListsTwo {P E : Type 0} (first second : ℕ) (m m' : Seated P E) : Type 0 where
  pub middle : Seated P E
  pub one : ListsOne first m middle
  pub two : ListsOne second middle m'

-- it grew by one or more, all on that word
pub record ListsSome {P E : Type 0} (at : ℕ) (m m' : Seated P E) : Type 0 where
  pub newest : Seen
  pub others : List Seen
  pub steps_are : (view_of m').steps ≡ newest ∷ others ++ (view_of m).steps
  pub all_there : All (λ (e : Seen). e.index ≡ at) (newest ∷ others)

module _ {P E O : Type 0} (cargo : Ghosts P E O) (board : Board O) (x : Name)
    (old new : Seat (Option P) (View P E)) where
  -- a step of an operation is one step on its node's control word; where the node has a source, its
  -- word is renewed before the node begins
  pub record ListsOfNode : Type 0 where
    pub begun : Begun board x old new cargo →
        (has_source board.frame.tree x.node ≡ true →
        ListsTwo (source_index (aim_at board x)) (control_index board x) old.me new.me)
        × (has_source board.frame.tree x.node ≡ false →
        ListsOne (control_index board x) old.me new.me)
    pub awaited : (nodes : List ℕ) → Awaited board x old new cargo nodes →
        ListsOne (control_index board x) old.me new.me
    pub rested : (to : Resting) → Rested board x old new to →
        ListsOne (control_index board x) old.me new.me
    pub finished : Finished board x old new cargo → ListsOne (control_index board x) old.me new.me
    pub taken : (from : Resting) (answer : Bool) →
        IsTaken cargo board.frame x from answer old.me new.me →
        ListsOne (control_index board x) old.me new.me
    pub reported : (answer : Report) → IsReportedAs cargo board.frame x answer old.me new.me →
        ListsOne (control_index board (above_it board.frame.tree x)) old.me new.me
    pub roused : (answer : Bool) → IsRoused board x answer old new →
        ListsOne (control_index board x) old.me new.me
    pub looked : (answer : Bool) → IsBegunAs board.frame x answer old.me new.me →
        ListsOne (control_index board x) old.me new.me
    pub swapped : (item before : Option P) → IsSwapped board.frame x item before old.me new.me →
        ListsOne (control_index board x) old.me new.me

module _ {P E O : Type 0} (board : Board O) (x : Name) (old new : Seat (Option P) (View P E)) where
  -- a step of a stop callback is one step on its word
  pub record ListsOfCallback : Type 0 where
    pub armed : IsArmed board x old new → ListsOne (callback_index board x) old.me new.me
    pub read : (answer : CallbackPhase) → IsPhaseAs board.frame x answer old.me new.me →
        ListsOne (callback_index board x) old.me new.me
    pub ended : IsRunEnded board x old new → ListsOne (callback_index board x) old.me new.me
    pub removed : IsOwnWithdrawn board x old new → ListsOne (callback_index board x) old.me new.me
    pub withdrawn : (answer : CallbackPhase) → IsWithdrawn board x answer old new →
        ListsOne (callback_index board x) old.me new.me

module _ {P E O : Type 0} (board : Board O) (block node : ℕ)
    (old new : Seat (Option P) (View P E)) where
  -- a claim loads the block's word, and where that is free it exchanges it; a look for work is one
  -- load
  pub record ListsOfBlock : Type 0 where
    pub claimed : (answer : Option Block) → IsAnswer board block answer old new →
        ListsOne (word_index board block) old.me new.me
        ⊎ ListsTwo (word_index board block) (word_index board block) old.me new.me
    pub released : (generation : ℕ) → Released board block generation old new →
        ListsOne (word_index board block) old.me new.me
    pub skipped : (answer : Bool) → IsSkipped board block answer old new →
        ListsOne (word_index board block) old.me new.me
    pub looked : (test : ControlWord → Bool) (answer : Option Name) →
        IsReadAs board block node test answer old new →
        ListsOne (index board.frame.layout (OfControl block node)) old.me new.me

module _ {P E O : Type 0} (board : Board O) (source : SourceRef) (block node : ℕ)
    (old new : Seat (Option P) (View P E)) where
  -- a step on a stop source is one step on its word; a scan's look at a place reads its callback
  -- word, and reads it again as long as the place is armed at a later generation each time
  pub record ListsOfSource : Type 0 where
    pub looked : (after : Option Name) (answer : Bool) →
        IsLookedAt board source after answer old new →
        ListsOne (index board.frame.layout (spot_of source)) old.me new.me
    pub asked : (failure : Bool) (answer : Bits) → IsAsked board source failure answer old new →
        ListsOne (index board.frame.layout (spot_of source)) old.me new.me
    pub sealed : IsScanSealed board source old new →
        ListsOne (index board.frame.layout (spot_of source)) old.me new.me
    pub run : (answer : Option Name) → IsRun board source block node answer old new →
        ListsSome (run_index board block node) old.me new.me

module _ {P E O : Type 0} (board : Board O) (old new : Seat (Option P) (View P E)) where
  -- a step on the counting scope is one step on its word
  pub record ListsOfScope : Type 0 where
    pub read : (answer : ScopeWord) → ReadsScope answer old new → ListsOne 0 old.me new.me
    pub entered : (answer : ScopeWord) → IsEntered board answer old new → ListsOne 0 old.me new.me
    pub made : IsMade old new → ListsOne 0 old.me new.me
    pub set : (sets : ScopeWord → ScopeWord) (answer : ScopeWord) → SetsScope sets answer old new →
        ListsOne 0 old.me new.me
    pub left : (answer : ScopeWord) → MovesScope with_one_less leaves_scope answer old new →
        ListsOne 0 old.me new.me
    pub sealed : (expected : ScopeWord) (answer : Result (Unit {0}) ScopeWord) →
        IsSealedAs expected answer old new → ListsOne 0 old.me new.me

module _ {P E O : Type 0} (cargo : Ghosts P E O) where
  abbrev pub NodesListTheirSteps : Type 0
  NodesListTheirSteps =
      (board : Board O) (x : Name) (old new : Seat (Option P) (View P E)) →
      ListsOfNode cargo board x old new

module _ (P E O : Type 0) where
  abbrev pub CallbacksListTheirSteps : Type 0
  CallbacksListTheirSteps =
      (board : Board O) (x : Name) (old new : Seat (Option P) (View P E)) →
      ListsOfCallback board x old new

  abbrev pub BlocksListTheirSteps : Type 0
  BlocksListTheirSteps =
      (board : Board O) (block node : ℕ) (old new : Seat (Option P) (View P E)) →
      ListsOfBlock board block node old new

  abbrev pub SourcesListTheirSteps : Type 0
  SourcesListTheirSteps =
      (board : Board O) (source : SourceRef) (block node : ℕ)
      (old new : Seat (Option P) (View P E)) →
      ListsOfSource board source block node old new

  abbrev pub ScopesListTheirSteps : Type 0
  ScopesListTheirSteps =
      (board : Board O) (old new : Seat (Option P) (View P E)) → ListsOfScope board old new

-- a list that grew is another, so a call that lists a step made one
abbrev pub ListedIsMade : Type 0 → Type 0 → Type 0
ListedIsMade P E =
    (at : ℕ) (m m' : Seated P E) → ListsSome at m m' → (view_of m').steps ≡ (view_of m).steps → ⊥
