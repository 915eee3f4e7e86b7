-- When a table may be closed, and what it leaves.
use Rattle.std.specs.Prelude.{◌≡◌, ◌⊎◌, ℕ, ◌+◌, ◌<◌, ◌≤◌, Bool, true, false, List, [], ◌∷◌, ◌++◌, length, Option, slice_index}
use Rattle.life_rules.specs.declared.words.BlockState.{BlockState}
use Rattle.life_rules.specs.Words.{is_free}
use Rattle.common_lemmas.specs.Sums.{one}
use Rattle.common_lemmas.specs.Sums.{total}
use Rattle.life_rules.specs.declared.scope.ScopeState.{ScopeState}
use Rattle.life_rules.specs.declared.scope.ScopeState.TheVariants.{Unused, Open, OpenAndJoining, Closed, ClosedAndJoining, UnusedAndClosed, Joined}
use Rattle.life_rules.specs.Scopes.{scope_state}
use Rattle.table_words.specs.ScopeNumbers.{scope_read}
use Rattle.listed_words.specs.declared.seen.Seen.{Seen}
use Rattle.table_words.specs.declared.layout.Layout.{Layout}
use Rattle.atomic_table.specs.declared.shared.Seat.{Seat}
use Rattle.atomic_table.specs.Table as table
use Rattle.table_rules.specs.declared.cargo.Cargo.{Ghosts}
use Rattle.table_rules.specs.declared.frame.Frame.{Frame}
use Rattle.table_rules.specs.declared.view.View.{View}
use Rattle.table_rules.specs.Named.{AnyOf, Each}
use Rattle.table_rules.specs.ShownWords.{is_retired, block_of, scope_of}
use Rattle.table_rules.specs.Counts.{over_all}
use Rattle.table_rules.specs.Grown.{HasRisen}
use Rattle.table_rules.specs.Traces.{LeavesThere, all_steps}
use Rattle.table_rules.specs.Running.{Running}
use Rattle.table_steps.specs.declared.remains.Remains.{Remains}
use Rattle.table_steps.specs.Views.{Board, IsHandOf, knows}

-- the hand has no node, owes nothing, runs and scans nothing, and has no association with the scope
pub record HasNothing {P E : Type 0} (v : View P E) : Type 0 where
  pub held : v.held ≡ []
  pub owed : v.owed ≡ []
  pub reported : v.reported ≡ []
  pub finished : v.finished ≡ []
  pub runs : v.runs ≡ []
  pub scans : v.scans ≡ []
  pub made : v.made ≡ 0
  pub making : v.making ≡ 0
  pub refused : v.refused ≡ 0

-- all hands of the table came back, and none of them has anything
pub record AreAllBack {P E O : Type 0} (board : Board O)
    (hands : List (Seat (Option P) (View P E))) : Type 0 where
  pub length_is : length hands ≡ board.frame.hands
  pub each : Each (λ hand. IsHandOf board hand × HasNothing (knows hand)) hands

-- so many blocks these hands claimed, and so many they gave back
abbrev pub claimed_by : {P E : Type 0} → List (Seat (Option P) (View P E)) → ℕ
claimed_by hands = over_all (λ hand. (knows hand).claimed) hands

abbrev pub released_by : {P E : Type 0} → List (Seat (Option P) (View P E)) → ℕ
released_by hands = over_all (λ hand. (knows hand).released) hands

-- the steps that these hands listed, the last hand's first
abbrev pub steps_of : {P E : Type 0} → List (Seat (Option P) (View P E)) → List Seen
steps_of [] = []
steps_of (hand ∷ rest) = steps_of rest ++ all_steps (knows hand)

-- the view of a hand to which another was joined: it counts for both, and has the steps of both
abbrev pub gathered : {P E : Type 0} → View P E → View P E → View P E
gathered v w =
    record v {
      claimed = v.claimed + w.claimed;
      released = v.released + w.released;
      hands = v.hands + w.hands;
      joined = v.joined ++ all_steps w;
    }

-- the view of the hand that was joined to another
abbrev pub spent : {P E : Type 0} → View P E → View P E
spent w = record w { claimed = 0; released = 0; hands = 0 }

-- of all hands these are left, and this one counts for the others
pub record IsGathering {P E O : Type 0} (board : Board O)
    (all left : List (Seat (Option P) (View P E)))
    (hand : Seat (Option P) (View P E)) : Type 0 where
  pub table_is : hand.table_id ≡ board.table_id
  pub itself : 1 ≤ (knows hand).hands
  pub claimed : (knows hand).claimed + claimed_by left ≡ claimed_by all
  pub released : (knows hand).released + released_by left ≡ released_by all
  pub hands : (knows hand).hands + length left ≡ length all
  pub steps : all_steps (knows hand) ++ steps_of left ≡ steps_of all
  pub each : Each (λ other. IsHandOf board other × HasNothing (knows other)) left

-- as many blocks are open still as these hands claimed and didn't give back
abbrev pub IsCountedBy : {P E O : Type 0} → Board O → List (Seat (Option P) (View P E)) → Remains →
    Type 0
IsCountedBy board hands c = c.free + c.retired + claimed_by hands ≡ board.frame.layout.blocks
    + released_by hands

-- of the first blocks so many pass the test
abbrev pub blocks_before : ℕ → (BlockState → Bool) → Layout → List ℕ → ℕ
blocks_before count test l words = total (λ b. one (test (block_of l words b).state)) count

-- what these words tell, by their first blocks
pub record TellsOf (l : Layout) (words : List ℕ) (count : ℕ) (c : Remains) : Type 0 where
  pub scope_is : c.scope ≡ scope_state (scope_of l words)
  pub free_is : c.free ≡ blocks_before count is_free l words
  pub retired_is : c.retired ≡ blocks_before count is_retired l words

-- the table's last state kept the rule, its words are as these hands left them, and this is what
-- they tell
pub record IsClosing {P E O : Type 0} (cargo : Ghosts P E O) (f : Frame O)
    (hands : List (Seat (Option P) (View P E))) (c : Remains) : Type 0 where
  pub last : table.State (Option P) (View P E)
  pub runs : Running cargo f last
  -- a word is 0 as at first, or a step of one of these hands left it so
  pub left : (i : ℕ) → i < length last.words →
      (slice_index last.words i ≡ 0)
      ⊎ AnyOf (LeavesThere i (slice_index last.words i)) (steps_of hands)
  -- and no step of theirs read or left a later word
  pub risen : Each (HasRisen f.layout last.words) (steps_of hands)
  pub tells : TellsOf f.layout last.words f.layout.blocks c

-- the step was on the scope's word, which stands first, and left it in this state
pub record LeavesScope (state : ScopeState) (e : Seen) : Type 0 where
  pub index_is : e.index ≡ 0
  pub state_is : scope_state (scope_read e.left) ≡ state

-- the scope may end so (P3149, [exec.scope]): no association was ever made, or it is joined
abbrev pub may_end : ScopeState → Bool
may_end Unused = true
may_end Open = false
may_end OpenAndJoining = false
may_end Closed = false
may_end ClosedAndJoining = false
may_end UnusedAndClosed = true
may_end Joined = true

-- by these steps the scope may end: one of them left it joined, or none left it otherwise than
-- unused
abbrev pub IsSettled : List Seen → Type 0
IsSettled steps =
    AnyOf (LeavesScope Joined) steps
    ⊎ Each (λ e. e.index ≡ 0 → may_end (scope_state (scope_read e.left)) ≡ true) steps

-- the state in which these steps left the scope
pub record IsScopeLeft (steps : List Seen) (state : ScopeState) : Type 0 where
  -- it was never touched, or one of them left it so
  pub left : (state ≡ Unused) ⊎ AnyOf (LeavesScope state) steps
  -- one that was joined stays so
  pub joined : AnyOf (LeavesScope Joined) steps → state ≡ Joined
  pub settled : IsSettled steps → may_end state ≡ true

-- a table as it was closed: with what it was opened, with what its hands came back, and what its
-- words told
pub record ClosedTable (P E O : Type 0) : Type 0 where
  pub board : Board O
  pub hands : List (Seat (Option P) (View P E))
  pub remains : Remains

-- this is true of it
pub record IsClosedSo {P E O : Type 0} (cargo : Ghosts P E O) (c : ClosedTable P E O) : Type 0 where
  pub closing : IsClosing cargo c.board.frame c.hands c.remains
  pub scope : IsScopeLeft (steps_of c.hands) c.remains.scope
  pub within : c.remains.free + c.remains.retired ≤ c.board.frame.layout.blocks
  pub counted : IsCountedBy c.board c.hands c.remains
