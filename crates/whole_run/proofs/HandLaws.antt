-- What the hands of a run are before it.
use Rattle.std.proofs.Common.{◌≡◌, ℕ, ◌+◌, zero, suc, List, [], ◌∷◌, length, All, refl, sym, ap, ◌∙◌, subst, arith}
use Rattle.std.specs.Prelude.{Option, remove, slice_index_or}
use mathlib.Core.Option.{some}
use lib.ListN.{get_elem?}
use Rattle.atomic_table.specs.declared.shared.Seat.{Seat}
use Rattle.exec_recv.specs.Over.{IsOver}
use Rattle.home_items.specs.declared.entry.Entry.{Entry}
use Rattle.home_items.specs.declared.item.Item.{Item}
use Rattle.plan_kinds.specs.Runnable.{IsRunnable}
use Rattle.plan_shape.specs.Blueprint.{Blueprint}
use Rattle.run_workers.specs.Crews.{CanServe, IsSpare}
use Rattle.table_rules.specs.declared.view.View.{View}
use Rattle.table_steps.specs.Closings.{HasNothing, claimed_by}
use Rattle.table_steps.specs.Views.{AreFreshHands, Board, IsHandOf, fresh_with, knows}
use Rattle.whole_run.specs.Opened.{CanRunOn, IsFreshHand}

-- what a hand of a table over a plan is
abbrev TheHand : Type 0
TheHand = Seat (Option Item) (View Item Entry)

-- what is stepped is the plan
pub stepped-over : (board : Board Blueprint) (plan : Blueprint) (window : ℕ) (stepped : Blueprint) → CanRunOn board plan window stepped → IsOver board stepped
stepped-over board plan window stepped runs = subst (λ (p : Blueprint). IsOver board p) (sym runs.stepper) runs.for.over

pub stepped-runs : (board : Board Blueprint) (plan : Blueprint) (window : ℕ) (stepped : Blueprint) → CanRunOn board plan window stepped → IsRunnable stepped
stepped-runs board plan window stepped runs = subst (λ (p : Blueprint). IsRunnable p) (sym runs.stepper) runs.kinds

-- a hand that has done nothing is spare
untouched-spare : (board : Board Blueprint) (number : ℕ) (hand : TheHand) → IsHandOf board hand → knows hand ≡ fresh_with number (knows hand).splits → IsSpare board hand
untouched-spare board number hand of fresh = record {
  hand_of = of;
  nothing = subst (λ (v : View Item Entry). HasNothing v) (sym fresh)
      (record { held = refl; owed = refl; reported = refl; finished = refl; runs = refl; scans = refl; made = refl; making = refl; refused = refl });
  even = ap (λ (v : View Item Entry). v.claimed) fresh ∙ sym (ap (λ (v : View Item Entry). v.released) fresh);
}

-- the first hand of a new table
pub first-fresh : (board : Board Blueprint) (workers : ℕ) (all : List TheHand) (hand : TheHand) → AreFreshHands board (workers + 1) all → hand ≡ slice_index_or all 0 hand → IsFreshHand board hand
first-fresh board workers [] hand fresh is = absurd (let wrong : 0 ≡ workers + 1 = fresh.length_is in omega arith)
first-fresh board workers (first ∷ rest) hand fresh is =
    let at = fresh.each 0 first refl in
    subst (IsFreshHand board) (sym is) (record { hand_of = at.0; fresh = at.2 })

-- what holds of the hand at each place holds of all
all-of : (P : TheHand → Type 0) (all : List TheHand) → ((h : ℕ) (hand : TheHand) → get_elem? all h ≡ some hand → P hand) → All P all
all-of P [] each k d low = absurd (omega arith)
all-of P (first ∷ rest) each zero d low = each zero first refl
all-of P (first ∷ rest) each (suc k) d low = all-of P rest (λ h hand at. each (suc h) hand at) k d (omega arith)

-- the others
pub rest-spare : (board : Board Blueprint) (workers : ℕ) (all rest : List TheHand) → AreFreshHands board (workers + 1) all → rest ≡ remove all 0 → All (IsSpare board) rest
rest-spare board workers [] rest fresh is = absurd (let wrong : 0 ≡ workers + 1 = fresh.length_is in omega arith)
rest-spare board workers (first ∷ others) rest fresh is =
    subst (λ (hands : List TheHand). All (IsSpare board) hands) (sym is)
    (all-of (IsSpare board) others
    (λ h hand at. let each = fresh.each (suc h) hand at in untouched-spare board (suc h) hand each.0 each.2))

pub rest-count : (board : Board Blueprint) (workers : ℕ) (all rest : List TheHand) → AreFreshHands board (workers + 1) all → rest ≡ remove all 0 → length rest ≡ workers
rest-count board workers [] rest fresh is = absurd (let wrong : 0 ≡ workers + 1 = fresh.length_is in omega arith)
rest-count board workers (first ∷ others) rest fresh is =
    let same : length rest ≡ length others = ap length is in omega (arith, same, fresh.length_is)

-- and they claimed no block
claimed-none : (board : Board Blueprint) (all : List TheHand) → All (λ (hand : TheHand). (knows hand).claimed ≡ 0) all → claimed_by all ≡ 0
claimed-none board [] none = refl
claimed-none board (first ∷ rest) none =
    let here = none zero first (omega arith) in
    let there = claimed-none board rest (λ k d low. none (suc k) d (omega arith)) in
    omega (arith, here, there)

pub rest-unclaimed : (board : Board Blueprint) (workers : ℕ) (all rest : List TheHand) → AreFreshHands board (workers + 1) all → rest ≡ remove all 0 → claimed_by rest ≡ 0
rest-unclaimed board workers [] rest fresh is = absurd (let wrong : 0 ≡ workers + 1 = fresh.length_is in omega arith)
rest-unclaimed board workers (first ∷ others) rest fresh is =
    ap claimed_by is
    ∙ claimed-none board others
    (all-of (λ (hand : TheHand). (knows hand).claimed ≡ 0) others
    (λ h hand at. ap (λ (v : View Item Entry). v.claimed) (fresh.each (suc h) hand at).2))

-- and spare hands can serve
pub all-serve : (board : Board Blueprint) (plan : Blueprint) (window : ℕ) (stepped : Blueprint) (hands : List TheHand) → CanRunOn board plan window stepped → All (IsSpare board) hands → All (CanServe board stepped) hands
all-serve board plan window stepped hands runs spare =
    λ k d low. record { over = stepped-over board plan window stepped runs; kinds = stepped-runs board plan window stepped runs; spare = spare k d low }
