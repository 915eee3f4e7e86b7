-- The futures that a hand keeps, and what it says of an operation that it begins or ends.
use Rattle.std.specs.Prelude.{◌≡◌, ℕ, ◌+◌, ◌-◌, ◌<◌, ◌≤◌, List, Option}
use Rattle.atomic_table.specs.declared.shared.Seat.{Seat}
use Rattle.life_rules.specs.declared.event.Name.{Name}
use Rattle.plan_shape.specs.Blueprint.{Blueprint}
use Rattle.table_rules.specs.declared.view.View.{View}
use Rattle.table_steps.specs.declared.block.Block.{Block}
use Rattle.table_steps.specs.ScopeEntries.{MayEnter}
use Rattle.table_steps.specs.Views.{Board, IsHandOf, knows}
use Rattle.table_steps.specs.Claims.{root_name, IsUnnoted}
use Rattle.table_steps.specs.Seats.{Seated, view_of}
use Rattle.count_scope.specs.Leaves.{disassociated, Leaves}
use Rattle.home_items.specs.declared.entry.Entry.{Entry}
use Rattle.home_items.specs.declared.item.Item.{Item}
use Rattle.exec_recv.specs.Asides.{Aside, aside_of}
use Rattle.node_walks.specs.Resting.{IsAtRest}
use Rattle.node_walks.specs.declared.completing.Ended.{Ended}
use Rattle.node_walks.specs.Completes.{CompletesNoted, IsListed}
use Rattle.node_walks.specs.Emptied.{with_released, MovesAndGivesBack}
use Rattle.node_walks.specs.Leaves.{LeavesAside}
use Rattle.node_walks.specs.Starts.{with_started}
use Rattle.spawn_future.specs.declared.future.Future.{Future}
use Rattle.spawn_future.specs.Slots.{Has, kept_in}

-- The root of a block, and that of a future's.
abbrev pub block_root : Board Blueprint → Block → Name
block_root board b = root_name board b.index b.generation

abbrev pub root_of : Board Blueprint → Future → Name
root_of board f = block_root board f.block

-- The hand has an association for each future. Of each it noted the start of its block's root at
-- the block's generation, a start of the receiver node; and no two are in one block.
pub record AreKept (board : Board Blueprint) (slots : List (Option Future))
    (m : Seated Item Entry) : Type 0 where
  pub made : kept_in slots ≤ (view_of m).made
  pub each : (t : ℕ) (f : Future) → Has slots t f → IsListed board f.block m
  pub apart : (t u : ℕ) (f g : Future) → Has slots t f → Has slots u g
      → root_of board f ≡ root_of board g → t ≡ u

-- Hand 0 of the table keeps them. It is at rest, and has no association in the making or being
-- refused.
pub record IsKeeping (board : Board Blueprint) (slots : List (Option Future))
    (hand : Seat (Option Item) (View Item Entry)) : Type 0 where
  pub hand_of : IsHandOf board hand
  pub first : (knows hand).number ≡ 0
  pub rests : IsAtRest (knows hand)
  pub settled : MayEnter (knows hand)
  pub keeps : AreKept board slots hand.me

-- So it does while it holds a node.
pub record KeepsAtHand (board : Board Blueprint) (slots : List (Option Future))
    (hand : Seat (Option Item) (View Item Entry)) : Type 0 where
  pub hand_of : IsHandOf board hand
  pub first : (knows hand).number ≡ 0
  pub settled : MayEnter (knows hand)
  pub keeps : AreKept board slots hand.me

-- Whichever hand kept the futures in the first slots keeps those in the others.
abbrev pub KeepsOn : List (Option Future) → List (Option Future) → Type 0
KeepsOn old new =
    (board : Board Blueprint) (hand : Seat (Option Item) (View Item Entry)) →
    IsKeeping board old hand → IsKeeping board new hand

-- One association and one block more, whose root was begun with this start.
abbrev pub with_spawned : Name → List Entry → Aside → Aside
with_spawned root start aside = record (with_started root start aside) { made = aside.made + 1 }

-- One of each less: the block was given back, and the association left.
abbrev pub with_ended : Name → Aside → Aside
with_ended root aside = record (with_released root aside) { made = aside.made - 1 }

-- An operation was begun in a block with this start and an association. The hand had noted none of
-- its root.
pub record Enters (board : Board Blueprint) (b : Block) (start : List Entry)
    (m m' : Seated Item Entry) : Type 0 where
  pub within : b.index < board.frame.layout.blocks
  pub unnoted : IsUnnoted (view_of m) (block_root board b)
  pub leaves : LeavesAside (with_spawned (block_root board b) start (aside_of (view_of m))) m m'

-- The operation in the block completed so. The block was given back, beside whose words none was
-- moved, and then the association left.
pub record Ends (board : Board Blueprint) (b : Block) (m m' : Seated Item Entry)
    (ended : Ended) : Type 0 where
  pub completes : CompletesNoted board b m ended
  pub given : Seated Item Entry
  pub moves : MovesAndGivesBack board b m given
  pub left : Leaves (disassociated given) m'
  pub leaves : LeavesAside (with_ended (block_root board b) (aside_of (view_of m))) m m'
