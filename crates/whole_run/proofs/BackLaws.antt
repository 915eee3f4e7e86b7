-- What becomes of the hands of a run, and what its table leaves.
use Rattle.std.proofs.Common.{◌≡◌, ℕ, ◌+◌, zero, suc, List, [], ◌∷◌, ◌++◌, length, All, refl, sym, ap, ◌∙◌, subst, arith}
use Rattle.std.specs.Prelude.{Option}
use Rattle.std.proofs.lemmas.List.{length-append}
use Rattle.std.proofs.lemmas.List.Elements.{All-append}
use Rattle.atomic_table.specs.declared.shared.Seat.{Seat}
use Rattle.home_items.specs.declared.entry.Entry.{Entry}
use Rattle.home_items.specs.declared.item.Item.{Item}
use Rattle.life_rules.specs.declared.scope.ScopeState.TheVariants.{Joined}
use Rattle.listed_words.specs.declared.seen.Seen.{Seen}
use Rattle.plan_shape.specs.Blueprint.{Blueprint}
use Rattle.run_workers.specs.Crews.{HasServed, IsSpare}
use Rattle.table_kept.proofs.AnyOf.{any-left}
use Rattle.table_rules.specs.Named.{AnyOf, Each}
use Rattle.table_rules.specs.Traces.{all_steps}
use Rattle.table_rules.specs.declared.view.View.{View}
use Rattle.record_operations.specs.Ends.{IsEnded}
use Rattle.table_steps.specs.Closings.{AreAllBack, ClosedTable, HasNothing, IsCountedBy, IsScopeLeft, LeavesScope, claimed_by, released_by, steps_of}
use Rattle.table_steps.specs.Views.{Board, IsHandOf, knows}
use Rattle.run_tally.specs.Gathered.{Gathered}
use Rattle.record_operations.specs.Worked.{HasWorked}
use Rattle.whole_run.specs.Accounts.{IsClosedFor}
use Rattle.whole_run.specs.Fronts.{IsEndedOn}
use Rattle.whole_run.specs.Opened.{AreBack, IsTableFor}

-- what a hand of a table over a plan is
abbrev TheHand : Type 0
TheHand = Seat (Option Item) (View Item Entry)

-- a mark of one table alone tells on which the run ended
pub ended-on : (on : Board Blueprint → Type 0) (board : Board Blueprint) (hand : TheHand) → ((other : Board Blueprint) → on other → other ≡ board) →
    IsEnded on hand → IsEndedOn board hand
ended-on on board hand alone ended = record {
  board = ended.board;
  is_on = alone ended.board ended.is_on;
  hand_of = ended.hand_of;
  nothing = ended.nothing;
  even = ended.even;
  joined = ended.joined;
}

-- the hand on which a run ended is spare
pub ended-spare : (board : Board Blueprint) (hand : TheHand) → IsEndedOn board hand → IsSpare board hand
ended-spare board hand ended = record {
  hand_of = subst (λ (b : Board Blueprint). IsHandOf b hand) ended.is_on ended.hand_of;
  nothing = ended.nothing;
  even = ended.even;
}

-- what a step of the last hand left, a step of all left
last-left : (P : Seen → Type 0) (rest : List TheHand) (hand : TheHand) → AnyOf P (all_steps (knows hand)) → AnyOf P (steps_of (rest ++ hand ∷ []))
last-left P [] hand left = left
last-left P (first ∷ rest) hand left =
    any-left P (steps_of (rest ++ hand ∷ [])) (all_steps (knows first)) (last-left P rest hand left)

-- a hand that has served is spare
served-spare : (board : Board Blueprint) (hands : List TheHand) → All (HasServed board) hands → All (IsSpare board) hands
served-spare board hands served = λ k d low. (served k d low).spare

one-all : (P : TheHand → Type 0) (hand : TheHand) → P hand → All P (hand ∷ [])
one-all P hand holds zero d low = holds
one-all P hand holds (suc k) d low = absurd (omega arith)

-- all hands are back where the others have served, and the run ended on hand 0
pub all-back : (board : Board Blueprint) (rest all : List TheHand) (hand : TheHand) → length rest + 1 ≡ board.frame.hands → All (HasServed board) rest → IsEndedOn board hand → all ≡ rest ++ hand ∷ []
    → AreBack board all
all-back board rest all hand count served ended is =
    subst (λ (hands : List TheHand). AreBack board hands) (sym is)
    (record {
      count = let long = length-append rest (hand ∷ []) in omega arith;
      each = All-append (IsSpare board) rest (hand ∷ []) (served-spare board rest served) (one-all (IsSpare board) hand (ended-spare board hand ended));
      joined = last-left (LeavesScope Joined) rest hand ended.joined;
    })

-- so the table may be closed
each-of : (board : Board Blueprint) (hands : List TheHand) → All (IsSpare board) hands → Each (λ (hand : TheHand). IsHandOf board hand × HasNothing (knows hand)) hands
each-of board [] spare = tt
each-of board (first ∷ rest) spare =
    let here = spare zero first (omega arith) in
    ((here.hand_of, here.nothing), each-of board rest (λ k d low. spare (suc k) d (omega arith)))

pub back-closable : (board : Board Blueprint) (hands : List TheHand) → AreBack board hands → AreAllBack board hands
back-closable board hands back = record { length_is = back.count; each = each-of board hands back.each }

-- and as many blocks were given back as were claimed
evenly : (board : Board Blueprint) (hands : List TheHand) → All (IsSpare board) hands → claimed_by hands ≡ released_by hands
evenly board [] spare = refl
evenly board (first ∷ rest) spare =
    let here = (spare zero first (omega arith)).even in
    let there = evenly board rest (λ k d low. spare (suc k) d (omega arith)) in
    ap (λ n. n + claimed_by rest) here ∙ ap (λ n. (knows first).released + n) there

-- the last of all hands claimed as many blocks as all, where the others claimed none
claimed-last : (rest : List TheHand) (hand : TheHand) → claimed_by (rest ++ hand ∷ []) ≡ claimed_by rest + (knows hand).claimed
claimed-last [] hand = omega arith
claimed-last (first ∷ rest) hand = let more = claimed-last rest hand in omega (arith, more)

pub all-claimed : (rest all : List TheHand) (hand : TheHand) → claimed_by rest ≡ 0 → all ≡ rest ++ hand ∷ [] → claimed_by all ≡ (knows hand).claimed
all-claimed rest all hand none is = ap claimed_by is ∙ (let more = claimed-last rest hand in omega (arith, more, none))

-- so a table is closed for a run of its plan
pub closed-for : (plan : Blueprint) (window : ℕ) (board : Board Blueprint) (hands : List TheHand) (collected : List Gathered)
    (closing : ClosedTable Item Entry Blueprint) → closing.board ≡ board → closing.hands ≡ hands → IsTableFor plan window board → AreBack board hands →
    IsScopeLeft (steps_of hands) closing.remains.scope → IsCountedBy board hands closing.remains →
    HasWorked plan (length collected) (claimed_by hands) → IsClosedFor plan window collected closing
closed-for plan window board hands collected closing is-board is-hands for back scope counted worked =
    let even = evenly board hands back.each in
    record {
      for = subst (λ (b : Board Blueprint). IsTableFor plan window b) (sym is-board) for;
      joined = scope.joined back.joined;
      back = let given = for.blocks_are in omega (arith, even, counted, given);
      worked = subst (λ (l : List TheHand). HasWorked plan (length collected) (claimed_by l)) (sym is-hands) worked;
    }
