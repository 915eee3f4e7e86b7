-- Which places a turn has visited so far.
use Rattle.std.proofs.Common.{◌≡◌, ℕ, ◌+◌, false, List, ◌++◌, inl, inr, refl, sym, subst, arith}
use Rattle.std.specs.Prelude.{Option}
use Rattle.std.proofs.lemmas.Bool.{cases_eq}
use Rattle.life_rules.specs.declared.event.Resting.TheVariants.{Parked}
use Rattle.life_rules.specs.Words.{is_parked}
use Rattle.listed_words.specs.declared.seen.Seen.{Seen}
use Rattle.plan_shape.specs.Blueprint.{Blueprint}
use Rattle.table_words.specs.Controls.{control_read}
use Rattle.table_words.specs.Layouts.{OfControl, index}
use Rattle.table_steps.specs.Seats.{Seated}
use Rattle.table_steps.specs.Steps.{control_index}
use Rattle.table_steps.specs.Views.{Board, IsPlaceIn}
use Rattle.home_items.specs.declared.entry.Entry.{Entry}
use Rattle.home_items.specs.declared.item.Item.{Item}
use Rattle.exec_recv.specs.Seats.{HandSeat}
use Rattle.exec_recv.specs.Sites.{IsSite}
use Rattle.node_walks.specs.Serving.{TakesWord}
use Rattle.node_walks.proofs.Took.{took-moved}
use Rattle.serve_ahead.specs.declared.taking.AheadAt.{AheadAt}
use Rattle.serve_ahead.specs.declared.taking.Served.{Served}
use Rattle.serve_ahead.specs.Takes.{TakesAhead}
use Rattle.spawn_future.specs.declared.future.Future.{Future}
use Rattle.spawn_future.specs.Counts.{BeginsAndEnds}
use Rattle.spawn_future.specs.Keeping.{IsKeeping}
use Rattle.spawn_future.specs.Turns.{TakesParked, WasVisited, IsVisitedBelow, IsVisited, AreVisited}
use Rattle.spawn_future.proofs.Later.{moved-later, moved-earlier, read-later, read-earlier}

-- an `ahead` was taken by a step on its word, whatever was begun and ended since
pub took-parked : (board : Board Blueprint) (slots between later : List (Option Future)) (at : AheadAt) (served : Served) (old held new : HandSeat) →
    IsSite board → IsPlaceIn board at.name → IsKeeping board slots old → TakesAhead board at old held served →
    BeginsAndEnds board between later served.taken.from.me new.me → TakesParked board at.name old.me new.me
took-parked board slots between later at served old held new site place keeping took leaves =
    let from = served.taken.from in
    let won = took.took.0 refl in
    moved-later (control_index board at.name) (TakesWord Parked at.name) old.me from.me new.me
    (took-moved board _ site.over at.name place _ _ _ old.me from.me won.2 keeping.hand_of.seated keeping.rests
    (TakesWord Parked at.name) (refl, won.1))
    leaves.fresh leaves.grown

-- a place that was visited is so still, seen from later
visited-later : (board : Board Blueprint) (block node : ℕ) (m between m' : Seated Item Entry) → WasVisited board block node m between →
    (fresh : List Seen) → m'.0.steps ≡ fresh ++ between.0.steps → WasVisited board block node m m'
visited-later board block node m between m' visited fresh grown = elim visited [
  | inl taken ↦
      inl (record {
        name = taken.name;
        there = taken.there;
        taken = moved-later (control_index board taken.name) (TakesWord Parked taken.name) m between m' taken.taken fresh grown;
      })
  | inr read ↦
      inr
      (read-later (index board.frame.layout (OfControl block node)) (λ word. is_parked (control_read word) ≡ false) m between m' read fresh
      grown)
]

-- and from earlier
visited-earlier : (board : Board Blueprint) (block node : ℕ) (m between m' : Seated Item Entry) → (fresh : List Seen) →
    between.0.steps ≡ fresh ++ m.0.steps → WasVisited board block node between m' → WasVisited board block node m m'
visited-earlier board block node m between m' fresh grown visited = elim visited [
  | inl taken ↦
      inl (record {
        name = taken.name;
        there = taken.there;
        taken = moved-earlier (control_index board taken.name) (TakesWord Parked taken.name) m between m' fresh grown taken.taken;
      })
  | inr read ↦
      inr
      (read-earlier (index board.frame.layout (OfControl block node)) (λ word. is_parked (control_read word) ≡ false) m between m' fresh grown
      read)
]

module _ (board : Board Blueprint) (old slots new : List (Option Future)) (m between m' : Seated Item Entry) (first : BeginsAndEnds board old slots m between)
    (next : BeginsAndEnds board slots new between m') where
  -- one block more
  pub blocks-visited : (node block : ℕ) → IsVisitedBelow board node block m between → WasVisited board block node between m' →
      IsVisitedBelow board node (block + 1) m m'
  blocks-visited node block before here b below = elim (cases_eq b block) [
    | inl at ↦
        subst (λ k. WasVisited board k node m m') (sym at) (visited-earlier board block node m between m' first.fresh first.grown here)
    | inr apart ↦ visited-later board b node m between m' (before b (omega (arith, below, apart))) next.fresh next.grown
  ]

  -- and one node more
  pub nodes-visited : (plan : Blueprint) (node : ℕ) → AreVisited board plan node m between → IsVisited board plan node between m' →
      AreVisited board plan (node + 1) m m'
  nodes-visited plan node before here n below a b stands block inside = elim (cases_eq n node) [
    | inl at ↦
        visited-earlier board block n m between m' first.fresh first.grown
        (subst (λ k. IsVisited board plan k between m') (sym at) here a b stands block inside)
    | inr apart ↦
        visited-later board block n m between m' (before n (omega (arith, below, apart)) a b stands block inside) next.fresh next.grown
  ]
