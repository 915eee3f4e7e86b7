-- Which steps the calls list. A hand's list grows by its own steps alone, each listed by the step
-- itself: so what a call lists is what it did, and a body that makes no step, one step more, or one
-- on another word, doesn't do what its call says.
use Rattle.std.specs.Prelude.{◌≡◌, ◌⊎◌, ℕ, ◌<◌, ◌≤◌, Bool, true, List, ◌∷◌, ◌++◌, All, Option, Some, None, length}
use Rattle.node_tree.specs.Tree.{nearest}
use Rattle.life_rules.specs.declared.event.Name.{Name}
use Rattle.life_rules.specs.declared.event.SourceRef.{SourceRef}
use Rattle.life_rules.specs.declared.event.SourceRef.TheVariants.{Scope, Node}
use Rattle.life_rules.specs.States.{source_for}
use Rattle.table_words.specs.Layouts.{index}
use Rattle.atomic_table.specs.declared.shared.Seat.{Seat}
use Rattle.listed_words.specs.declared.seen.Seen.{Seen}
use Rattle.table_rules.specs.declared.view.View.{View}
use Rattle.table_steps.specs.Views.{Board, knows}
use Rattle.table_steps.specs.Callbacks.{callback_index}
use Rattle.table_steps.specs.Claims.{word_index}
use Rattle.table_steps.specs.Seats.{Seated, view_of}
use Rattle.table_steps.specs.Hearings.{UnderScope}
use Rattle.table_steps.specs.Remembers.{running}
use Rattle.table_steps.specs.Runs.{run_index}
use Rattle.table_steps.specs.ScanOrders.{hears}
use Rattle.table_steps.specs.ScanSeals.{CanSealScan, IsScanSealed}
use Rattle.table_steps.specs.Sights.{IsLookedAt, spot_of}
use Rattle.table_laws.specs.CallLists.{ListsOne, ListsTwo, ListsSome}
use Rattle.stop_calls.specs.declared.arming.Armed.{Armed}
use Rattle.stop_calls.specs.declared.removing.Settled.{Settled}
use Rattle.stop_calls.specs.declared.removing.Withdrawn.{Withdrawn}
use Rattle.stop_calls.specs.declared.requesting.Failure.{Failure}
use Rattle.stop_calls.specs.declared.requesting.Request.{Request}
use Rattle.stop_calls.specs.declared.scanning.Scan.{Scan}
use Rattle.stop_calls.specs.Armings.{IsArmedSo}
use Rattle.stop_calls.specs.Removals.{IsOver, IsSettled, IsTried}
use Rattle.stop_calls.specs.Requests.{IsFailed, IsRequested}
use Rattle.stop_calls.specs.Walks.{IsFound, IsThrough}

-- the list grew by such steps alone
pub record ListsOnly {P E : Type 0} (IsSuch : Seen → Type 0) (m m' : Seated P E) : Type 0 where
  pub made : List Seen
  pub steps_are : (view_of m').steps ≡ made ++ (view_of m).steps
  pub all_such : All IsSuch made

-- the index of the source's word
abbrev pub source_word : {O : Type 0} → Board O → SourceRef → ℕ
source_word board source = index board.frame.layout (spot_of source)

module _ {O : Type 0} (board : Board O) (source : SourceRef) (e : Seen) where
  -- the step is on the callback word of a place that hears the source
  pub record IsOfPlace : Type 0 where
    pub block : ℕ
    pub node : ℕ
    pub within : (block < board.frame.layout.blocks) × (node < length board.frame.tree)
    pub heard : hears board.frame.tree source block node ≡ true
    pub index_is : e.index ≡ run_index board block node

  -- the source is the scope's, and the step is on a block's word
  pub record IsOfBlock : Type 0 where
    pub scope : source ≡ Scope
    pub block : ℕ
    pub within : block < board.frame.layout.blocks
    pub index_is : e.index ≡ word_index board block

  -- the step is one of a scan of the source
  abbrev pub IsOfWalk : Type 0
  IsOfWalk = IsOfPlace ⊎ IsOfBlock

module _ {P E O : Type 0} (board : Board O) (old new : Seat (Option P) (View P E)) where
  -- a request is one step on the source's word, and so are a look at the source and the seal of its
  -- scan
  pub record ListsOfSource (source : SourceRef) : Type 0 where
    pub requested : (answer : Request) → IsRequested board source answer old new →
        ListsOne (source_word board source) old.me new.me
    pub failed : (node : Name) (answer : Failure) → IsFailed board node answer old new →
        ListsOne (source_word board (Node node)) old.me new.me
    pub looked : (answer : Bool) → IsLookedAt board source None answer old new →
        ListsOne (source_word board source) old.me new.me
    pub sealed : IsScanSealed board source old new →
        ListsOne (source_word board source) old.me new.me

  -- an arming is one step on the callback's word, and then one on that of the source that the node
  -- hears
  pub record ListsArming (x : Name) : Type 0 where
    pub source : SourceRef
    pub nearest_is : source_for x (nearest board.frame.tree x.node) ≡ Some source
    pub lists : ListsTwo (callback_index board x) (source_word board source) old.me new.me

  -- a try to remove a callback is one step on its word, and a removal one or more: under the scope,
  -- for hand 0, one. The end of a run is one step where the hand runs the callback, and else none
  pub record ListsOfCallback (x : Name) : Type 0 where
    pub armed : (answer : Armed) → IsArmedSo board x answer old new → ListsArming x
    pub tried : (answer : Withdrawn) → IsTried board x old new answer →
        ListsOne (callback_index board x) old.me new.me
    pub settled : (answer : Settled) → IsSettled board x old new answer →
        ListsSome (callback_index board x) old.me new.me
    pub at_once : (answer : Settled) → IsSettled board x old new answer →
        UnderScope board.frame.tree (knows old) x (ListsOne (callback_index board x) old.me new.me)
    pub ended : IsOver board x old new → 1 ≤ running (knows old) x →
        ListsOne (callback_index board x) old.me new.me
    pub was_over : IsOver board x old new → running (knows old) x ≡ 0 →
        (knows new).steps ≡ (knows old).steps

  -- the newest step is on the callback's word, and those before it in this call are of a scan of
  -- the source
  pub record ListsRun (source : SourceRef) (x : Name) : Type 0 where
    pub newest : Seen
    pub others : List Seen
    pub steps_are : (knows new).steps ≡ newest ∷ others ++ (knows old).steps
    pub index_is : newest.index ≡ callback_index board x
    pub all_there : All (IsOfWalk board source) others

  -- a scan's next steps on words of its walk alone: last on that of the callback which runs now.
  -- Where none was found and no step was made, no place was left before
  pub record ListsOfScan (before after : Scan) : Type 0 where
    pub found : (x : Name) → IsFound board before old new after x → ListsRun before.source x
    pub through : IsThrough board before old new after →
        ListsOnly (IsOfWalk board before.source) old.me new.me
    pub none_left : IsThrough board before old new after → (knows new).steps ≡ (knows old).steps →
        CanSealScan board.frame (knows old) before.source

module _ (P E O : Type 0) where
  abbrev pub SourcesListTheirSteps : Type 0
  SourcesListTheirSteps =
      (board : Board O) (old new : Seat (Option P) (View P E)) (source : SourceRef) →
      ListsOfSource board old new source

  abbrev pub CallbacksListTheirSteps : Type 0
  CallbacksListTheirSteps =
      (board : Board O) (old new : Seat (Option P) (View P E)) (x : Name) →
      ListsOfCallback board old new x

  abbrev pub ScansListTheirSteps : Type 0
  ScansListTheirSteps =
      (board : Board O) (old new : Seat (Option P) (View P E)) (before after : Scan) →
      ListsOfScan board old new before after
