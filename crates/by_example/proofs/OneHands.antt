-- What may be done with the one hand of a table, and what may be done with it at the end.
use Rattle.std.proofs.Common.{◌≡◌, ℕ, ◌+◌, ◌≤◌, List, [], ◌∷◌, refl, sym, ap, ◌∙◌, subst, arith}
use Rattle.std.specs.Prelude.{slice_index_or}
use Rattle.home_items.specs.declared.entry.Entry.{Entry}
use Rattle.home_items.specs.declared.item.Item.{Item}
use Rattle.node_walks.specs.Resting.{IsAtRest}
use Rattle.plan_shape.specs.Blueprint.{Blueprint}
use Rattle.run_loop.specs.Loops.{IsOpened, IsReady}
use Rattle.run_loop.specs.declared.looped.Loop.{Loop as Looped}
use Rattle.table_rules.specs.declared.view.View.{View}
use Rattle.table_steps.specs.Closings.{AreAllBack, HasNothing, IsCountedBy}
use Rattle.table_steps.specs.Views.{AreFreshHands, Board, IsHandOf, knows}
use Rattle.table_steps.specs.declared.remains.Remains.{Remains}
use Rattle.whole_run.specs.Opened.{IsFreshHand}
use Rattle.run_workers.specs.Crews.{IsSpare}
use Rattle.by_example.specs.OneHand.{TheHand}

abbrev TheView : Type 0
TheView = View Item Entry

-- the first hand of a new table has done nothing
pub first-new : (board : Board Blueprint) (all : List TheHand) (hand : TheHand) → AreFreshHands board 1 all →
    hand ≡ slice_index_or all 0 hand → IsFreshHand board hand
first-new board [] hand fresh is = absurd (let wrong : 0 ≡ 1 = fresh.length_is in omega arith)
first-new board (first ∷ rest) hand fresh is =
    let at = fresh.each 0 first refl in
    subst (IsFreshHand board) (sym is) (record { hand_of = at.0; fresh = at.2 })

module _ (board : Board Blueprint) (hand : TheHand) (new : IsFreshHand board hand) where
  rests : IsAtRest (knows hand)
  rests =
      subst (λ (v : TheView). IsAtRest v) (sym new.fresh)
      (record { held = refl; owed = refl; reported = refl; finished = refl; runs = refl; scans = refl })

  pub first-number : (knows hand).number ≡ 0
  first-number = ap (λ (v : TheView). v.number) new.fresh

  -- a loop on it is ready
  pub new-ready : (looped : Looped) → IsOpened board hand looped → IsReady board looped
  new-ready looped opened =
      let same = sym opened.hand_is in
      record {
        hand = subst (λ (h : TheHand). IsHandOf board h) same new.hand_of;
        first = subst (λ (h : TheHand). (knows h).number ≡ 0) same first-number;
        rests = subst (λ (h : TheHand). IsAtRest (knows h)) same rests;
        next = subst (λ (n : ℕ). n ≤ board.frame.layout.blocks) (sym opened.next) (omega arith);
        delays = opened.delays;
      }

  -- and it may come back as it is
  pub new-back : IsSpare board hand
  new-back = record {
    hand_of = new.hand_of;
    nothing = subst (λ (v : TheView). HasNothing v) (sym new.fresh)
        (record { held = refl; owed = refl; reported = refl; finished = refl; runs = refl; scans = refl; made = refl; making = refl; refused = refl });
    even = ap (λ (v : TheView). v.claimed) new.fresh ∙ sym (ap (λ (v : TheView). v.released) new.fresh);
  }

-- with the one hand all are back
pub all-back : (board : Board Blueprint) (all : List TheHand) (hand : TheHand) → board.frame.hands ≡ 1 → all ≡ hand ∷ [] →
    IsSpare board hand → AreAllBack board all
all-back board all hand one is back =
    subst (λ (hands : List TheHand). AreAllBack board hands) (sym is)
    (record { length_is = sym one; each = ((back.hand_of, back.nothing), tt) })

-- and all blocks
pub all-counted : (board : Board Blueprint) (all : List TheHand) (hand : TheHand) (left : Remains) → all ≡ hand ∷ [] →
    IsSpare board hand → IsCountedBy board all left → left.free + left.retired ≡ board.frame.layout.blocks
all-counted board all hand left is back counted =
    let count = subst (λ (hands : List TheHand). IsCountedBy board hands left) is counted in
    let even = back.even in
    omega arith
