-- What a turn does with the `ahead` nodes that are parked.
use Rattle.std.specs.Prelude.{◌≡◌, ◌⊎◌, ℕ, ◌<◌, false, List, [], ◌∷◌, length, Option, Some, slice_get}
use Rattle.atomic_table.specs.declared.shared.Seat.{Seat}
use Rattle.life_rules.specs.declared.event.Name.{Name}
use Rattle.life_rules.specs.declared.event.Resting.TheVariants.{Parked}
use Rattle.life_rules.specs.Words.{is_parked}
use Rattle.plan_rules.specs.declared.node.Node.TheVariants.{Ahead}
use Rattle.plan_shape.specs.Blueprint.{Blueprint}
use Rattle.table_rules.specs.declared.view.View.{View}
use Rattle.table_words.specs.Controls.{control_read}
use Rattle.table_words.specs.Layouts.{OfControl, index}
use Rattle.table_steps.specs.Steps.{control_index}
use Rattle.table_steps.specs.Views.{Board}
use Rattle.table_steps.specs.Seats.{Seated}
use Rattle.home_items.specs.declared.entry.Entry.{Entry}
use Rattle.home_items.specs.declared.item.Item.{Item}
use Rattle.exec_recv.specs.Since.{HasMovedSince, HasReadSince}
use Rattle.node_walks.specs.Serving.{TakesWord}
use Rattle.node_walks.specs.Since.{OnlyLooks}
use Rattle.serve_ahead.specs.declared.taking.AheadAt.{AheadAt}
use Rattle.serve_ahead.specs.Takes.{IsAheadIn}
use Rattle.spawn_future.specs.declared.future.Future.{Future}
use Rattle.spawn_future.specs.Counts.{BeginsAndEnds}
use Rattle.spawn_future.specs.Serves.{ServesAhead}

-- The node is an `ahead`.
pub record HasAhead (plan : Blueprint) (node : ℕ) : Type 0 where
  pub first : ℕ
  pub second : ℕ
  pub is : slice_get plan.nodes node ≡ Some (Ahead first second)

-- This is where the `ahead` of the name stands, with its children.
pub record IsAheadOf (plan : Blueprint) (name : Name) (at : AheadAt) : Type 0 where
  pub name_is : at.name ≡ name
  pub is : slice_get plan.nodes name.node ≡ Some (Ahead at.first at.second)

-- The word of the block's node was read, and didn't say that it is parked.
abbrev pub WasUnparked : Board Blueprint → ℕ → ℕ → Seated Item Entry → Seated Item Entry → Type 0
WasUnparked board block node m m' =
    HasReadSince (index board.frame.layout (OfControl block node))
    (λ word. is_parked (control_read word) ≡ false) m m'

-- The node's word was read so in each block.
abbrev pub AreAllUnparked : Board Blueprint → ℕ → Seated Item Entry → Seated Item Entry → Type 0
AreAllUnparked board node m m' =
    (block : ℕ) → block < board.frame.layout.blocks → WasUnparked board block node m m'

-- Where the node is an `ahead`, it was.
abbrev pub IsUnparked : Board Blueprint → Blueprint → ℕ → Seated Item Entry → Seated Item Entry
    → Type 0
IsUnparked board plan node m m' =
    (first second : ℕ) → slice_get plan.nodes node ≡ Some (Ahead first second) →
    AreAllUnparked board node m m'

-- So it was of the first so many nodes.
abbrev pub AreUnparked : Board Blueprint → Blueprint → ℕ → Seated Item Entry → Seated Item Entry
    → Type 0
AreUnparked board plan count m m' =
    (node : ℕ) → node < count → IsUnparked board plan node m m'

-- The node of this name was parked, and the hand took it by a step on its word.
abbrev pub TakesParked : Board Blueprint → Name → Seated Item Entry → Seated Item Entry → Type 0
TakesParked board x m m' = HasMovedSince (control_index board x) (TakesWord Parked x) m m'

-- So it was of the block's node.
pub record WasTakenParked (board : Board Blueprint) (block node : ℕ) (m m' : Seated Item Entry)
    : Type 0 where
  pub name : Name
  pub there : (name.block ≡ block) × (name.node ≡ node)
  pub taken : TakesParked board name m m'

-- It was taken where it was parked, or its word didn't say that it is parked.
abbrev pub WasVisited : Board Blueprint → ℕ → ℕ → Seated Item Entry → Seated Item Entry → Type 0
WasVisited board block node m m' =
    WasTakenParked board block node m m' ⊎ WasUnparked board block node m m'

-- So it was in each of the first so many blocks, and in each block.
abbrev pub IsVisitedBelow : Board Blueprint → ℕ → ℕ → Seated Item Entry → Seated Item Entry → Type 0
IsVisitedBelow board node blocks m m' =
    (block : ℕ) → block < blocks → WasVisited board block node m m'

abbrev pub IsVisitedInAll : Board Blueprint → ℕ → Seated Item Entry → Seated Item Entry → Type 0
IsVisitedInAll board node m m' = IsVisitedBelow board node board.frame.layout.blocks m m'

-- Where the node is an `ahead`, it was.
abbrev pub IsVisited : Board Blueprint → Blueprint → ℕ → Seated Item Entry → Seated Item Entry
    → Type 0
IsVisited board plan node m m' =
    (first second : ℕ) → slice_get plan.nodes node ≡ Some (Ahead first second) →
    IsVisitedInAll board node m m'

-- So it was of the first so many nodes.
abbrev pub AreVisited : Board Blueprint → Blueprint → ℕ → Seated Item Entry → Seated Item Entry
    → Type 0
AreVisited board plan count m m' =
    (node : ℕ) → node < count → IsVisited board plan node m m'

-- The place's word didn't say that it is parked, no word was moved, and no future either.
pub record PassesPlace (board : Board Blueprint) (block node : ℕ) (old new : List (Option Future))
    (m m' : Seated Item Entry) : Type 0 where
  pub slots : new ≡ old
  pub looks : OnlyLooks m m'
  pub unparked : WasUnparked board block node m m'

module _ (board : Board Blueprint) (plan : Blueprint) where
  -- An `ahead` of the plan was served, after words were looked at, and then came this.
  pub record ServesNext (at : AheadAt)
      (Then : List (Option Future) → Seat (Option Item) (View Item Entry) → Type 0)
      (old : List (Option Future)) (hand : Seat (Option Item) (View Item Entry)) : Type 0 where
    pub ahead : IsAheadIn board at
    pub found : Seat (Option Item) (View Item Entry)
    pub looks : OnlyLooks hand.me found.me
    pub slots : List (Option Future)
    pub served : Seat (Option Item) (View Item Entry)
    pub serves : ServesAhead board at old slots found served
    pub others : Then slots served

  -- These were served, one after the other. Beside that words were only looked at.
  abbrev pub ServesEach : List AheadAt → List (Option Future) → List (Option Future)
      → Seat (Option Item) (View Item Entry) → Seat (Option Item) (View Item Entry) → Type 0
  ServesEach [] old new hand hand' = (new ≡ old) × OnlyLooks hand.me hand'.me
  ServesEach (at ∷ others) old new hand hand' =
      ServesNext at (λ slots served. ServesEach others slots new served hand') old hand

  -- One was served.
  pub record ServesPlace (old new : List (Option Future))
      (hand hand' : Seat (Option Item) (View Item Entry)) : Type 0 where
    pub at : AheadAt
    pub serves : ServesEach (at ∷ []) old new hand hand'

  -- So many were served.
  pub record Turns (old new : List (Option Future))
      (hand hand' : Seat (Option Item) (View Item Entry)) (count : ℕ) : Type 0 where
    pub leaves : BeginsAndEnds board old new hand.me hand'.me
    pub each : List AheadAt
    pub count_is : count ≡ length each
    pub serves : ServesEach each old new hand hand'
