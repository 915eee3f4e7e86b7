-- The hand of a new table may begin to keep futures, of which there are none.
use Rattle.std.proofs.Common.{◌≡◌, ◌+◌, ℕ, List, [], ◌∷◌, arith, refl, sym, ap, subst}
use Rattle.std.specs.Prelude.{Option}
use mathlib.Core.Option.{some}
use lib.ListN.{get_elem?}
use Rattle.atomic_table.specs.declared.shared.Seat.{Seat}
use Rattle.plan_shape.specs.Blueprint.{Blueprint}
use Rattle.table_rules.specs.declared.view.View.{View}
use Rattle.listed_words.specs.Lists.{entry}
use Rattle.count_scope.specs.Looks.{Closes}
use Rattle.table_steps.specs.Seats.{Seated}
use Rattle.table_steps.specs.Views.{Board, IsHandOf, AreFreshHands, fresh_with, knows}
use Rattle.home_items.specs.declared.entry.Entry.{Entry}
use Rattle.home_items.specs.declared.item.Item.{Item}
use Rattle.node_walks.specs.Resting.{IsAtRest}
use Rattle.spawn_future.specs.declared.future.Future.{Future}
use Rattle.spawn_future.specs.Keeping.{IsKeeping}
use Rattle.spawn_future.specs.Opened.{IsOpened}
use Rattle.spawn_future.proofs.Kept.{keeping-same}
use Rattle.spawn_future.proofs.Moved.{Moves, moved-rests, moved-leaves}
use Rattle.hand_tests.specs.Ready.{IsFirst}

module _ (board : Board Blueprint) (hand : Seat (Option Item) (View Item Entry)) where
  fresh-rests : knows hand ≡ fresh_with 0 (knows hand).splits → IsAtRest (knows hand)
  fresh-rests fresh =
      subst (λ (v : View Item Entry). IsAtRest v) (sym fresh)
      (record { held = refl; owed = refl; reported = refl; finished = refl; runs = refl; scans = refl })

  pub fresh-first : (all : List (Seat (Option Item) (View Item Entry))) → AreFreshHands board 1 all → get_elem? all 0 ≡ some hand →
      IsFirst board hand
  fresh-first all fresh at =
      let each = fresh.each 0 hand at in
      record {
        hand_of = each.0;
        first = ap (λ (v : View Item Entry). v.number) each.2;
        rests = fresh-rests each.2;
        settled = ap (λ (v : View Item Entry). v.making + v.refused) each.2;
      }

  pub opens-keeping : IsFirst board hand → (most : ℕ) (slots : List (Option Future)) → IsOpened most slots → IsKeeping board slots hand
  opens-keeping is most slots opened =
      let none = opened.none in
      record {
        hand_of = is.hand_of;
        first = is.first;
        rests = is.rests;
        settled = is.settled;
        keeps = record {
          made = omega (arith, none);
          each = λ t f has. absurd (opened.free t f has);
          apart = λ t u f g has_f has_g at. absurd (opened.free t f has_f);
        };
      }

-- and where it closed the scope
closes-moves : (m m' : Seated Item Entry) → Closes m m' → Moves m.0.made m m'
closes-moves m m' did = record { fresh = entry 0 did.read did.left ∷ []; is = ap (λ (z : Seated Item Entry). z.0) did.me_is }

pub closes-keeping : (board : Board Blueprint) (slots : List (Option Future)) (old new : Seat (Option Item) (View Item Entry)) →
    IsKeeping board slots old → IsHandOf board new → Closes old.me new.me → IsKeeping board slots new
closes-keeping board slots old new keeping hand_of did =
    let moved = closes-moves old.me new.me did in
    keeping-same board slots old new keeping hand_of (moved-rests old.me.0.made old.me new.me moved keeping.rests)
    (moved-leaves old.me.0.made old.me new.me moved)
