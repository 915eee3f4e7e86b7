-- A loop on the hand of a new table is ready, and an operation may be started there and collected.
use Rattle.std.proofs.Common.{◌≡◌, inl, ℕ, ◌-◌, ◌≤◌, Bool, length, List, [], ◌∷◌, arith, refl, sym, ap, subst}
use Rattle.std.specs.Prelude.{Option}
use mathlib.Core.Option.{some}
use lib.ListN.{get_elem?}
use Rattle.atomic_table.specs.declared.shared.Seat.{Seat}
use Rattle.exec_value.specs.Kinds.{HasKind}
use Rattle.exec_value.specs.declared.data.Datum.{Datum}
use Rattle.deck_relay.specs.declared.deck.Deck.{Deck}
use Rattle.life_rules.specs.declared.event.Name.{Name}
use Rattle.plan_kinds.specs.Reached.{KindsMatch}
use Rattle.plan_kinds.specs.Runnable.{IsRunnable}
use Rattle.plan_reader.specs.PlanFile.{IsPlanOf}
use Rattle.plan_shape.specs.Blueprint.{Blueprint, IsPlan}
use Rattle.table_rules.specs.declared.view.View.{View}
use Rattle.table_steps.specs.Views.{Board, AreFreshHands, IsHandOf, fresh_with, knows}
use Rattle.exec_recv.specs.Over.{IsOver}
use Rattle.home_items.specs.declared.entry.Entry.{Entry}
use Rattle.home_items.specs.declared.item.Item.{Item}
use Rattle.home_items.specs.Entries.{record_start}
use Rattle.home_items.proofs.Beginning.{record-kinds}
use Rattle.node_walks.specs.Resting.{IsAtRest}
use Rattle.run_loop.specs.declared.looped.Loop.{Loop as Looped}
use Rattle.run_loop.specs.Loops.{IsOpened, IsReady, IsTold, decked}
use Rattle.node_walks.specs.Starts.{CanRun}
use Rattle.node_tests.specs.Ready.{IsFirst}

-- a plan that was read, and is whole, can be evaluated
pub read-runs : (bytes : List ℕ) (plan : Blueprint) → IsPlanOf bytes plan → IsPlan plan → IsRunnable plan
read-runs bytes plan is whole =
    let Matching : Blueprint → Type 0 = λ p. KindsMatch p.nodes p.settings.input in
    record { plan_is = whole; matching = subst Matching (sym is.2.same) is.2.matches.kinds }

module _ (board : Board Blueprint) (hand : Seat (Option Item) (View Item Entry)) where
  fresh-rests : knows hand ≡ fresh_with 0 (knows hand).splits → IsAtRest (knows hand)
  fresh-rests fresh =
      subst (λ (v : View Item Entry). IsAtRest v) (sym fresh)
      (record { held = refl; owed = refl; reported = refl; finished = refl; runs = refl; scans = refl })

  -- the hand of a new table
  pub fresh-first : (all : List (Seat (Option Item) (View Item Entry))) → AreFreshHands board 1 all → get_elem? all 0 ≡ some hand →
      IsFirst board hand
  fresh-first all fresh at =
      let each = fresh.each 0 hand at in
      record { hand_of = each.0; first = ap (λ (v : View Item Entry). v.number) each.2; rests = fresh-rests each.2 }

  -- and a loop on it
  pub opens-ready : IsFirst board hand → (looped : Looped) → IsOpened board hand looped → IsReady board looped
  opens-ready is looped opened =
      let same = sym opened.hand_is in
      record {
        hand = subst (λ (h : Seat (Option Item) (View Item Entry)). IsHandOf board h) same is.hand_of;
        first = subst (λ (h : Seat (Option Item) (View Item Entry)). (knows h).number ≡ 0) same is.first;
        rests = subst (λ (h : Seat (Option Item) (View Item Entry)). IsAtRest (knows h)) same is.rests;
        next = subst (λ (n : ℕ). n ≤ board.frame.layout.blocks) (sym opened.next) (omega arith);
        delays = opened.delays;
      }

-- as it is where it helps the pool
pub helps-ready : (board : Board Blueprint) (old new : Looped) (helps : Bool) → IsReady board old →
    new ≡ record old { helps = helps } → IsReady board new
helps-ready board old new helps ready is =
    subst (IsReady board) (sym is)
    (record {
      hand = ready.hand;
      first = ready.first;
      rests = ready.rests;
      next = ready.next;
      delays = ready.delays;
    })

-- where it has a deck
pub decked-ready : (board : Board Blueprint) (old new : Looped) (deck : Deck) → IsReady board old → new ≡ decked deck old → IsReady board new
decked-ready board old new deck ready is =
    subst (IsReady board) (sym is)
    (record {
      hand = ready.hand;
      first = ready.first;
      rests = ready.rests;
      next = ready.next;
      delays = ready.delays;
    })

-- and where it knows other names
pub told-ready : (board : Board Blueprint) (old new : Looped) (names : List Name) → IsReady board old → IsTold names old new → IsReady board new
told-ready board old new names ready is =
    subst (IsReady board) (sym is.rest)
    (record {
      hand = ready.hand;
      first = ready.first;
      rests = ready.rests;
      next = ready.next;
      delays = ready.delays;
    })

-- a record of the input's kind may be started
pub record-runs : (board : Board Blueprint) (plan : Blueprint) → IsOver board plan → (datum : Datum) → HasKind datum plan.settings.input →
    (number : ℕ) (asked : Bool) → CanRun board (record_start plan (datum ∷ []) number asked)
record-runs board plan over datum kind number asked =
    let some = over.is_plan.some in
    record {
      receiver = record { node = refl; top = length plan.nodes - 1; names = refl; is_top = inl (omega (arith, some)); whole = refl };
      plan = sym over.over;
      kinds = record-kinds plan over.is_plan datum kind number asked;
    }
