-- How an operation is started in a free block.
use Rattle.std.specs.Prelude.{◌≡◌, ℕ, ◌+◌, ◌<◌, List, [], ◌∷◌, Option, Some}
use Rattle.atomic_table.specs.declared.shared.Seat.{Seat}
use Rattle.life_rules.specs.declared.event.Name.{Name}
use Rattle.plan_shape.specs.Blueprint.{Blueprint}
use Rattle.table_steps.specs.declared.block.Block.{Block}
use Rattle.table_steps.specs.Views.{Board, aim_at}
use Rattle.table_steps.specs.Begins.{Begins}
use Rattle.table_rules.specs.declared.view.View.{View}
use Rattle.table_steps.specs.Claims.{root_name, IsUnnoted}
use Rattle.table_steps.specs.Seats.{Seated, view_of}
use Rattle.table_steps.specs.Slots.{home_at}
use Rattle.op_slot.specs.Puts.{IsPut}
use Rattle.op_slot.specs.Searches.{IsMissedFrom, IsFoundFrom}
use Rattle.home_items.specs.contracts.item.ItemCargo.TheImpl.{ghosts}
use Rattle.home_items.specs.declared.entry.Entry.{Entry}
use Rattle.home_items.specs.declared.item.Item.{Item}
use Rattle.home_items.specs.Contents.{Start}
use Rattle.home_items.specs.Entries.{plan_of}
use Rattle.home_items.specs.Fits.{FitsChild}
use Rattle.home_items.specs.Starts.{IsReceiverStart}
use Rattle.exec_recv.specs.Asides.{Aside, aside_of}
use Rattle.exec_recv.specs.Seats.{HandSeat}
use Rattle.exec_recv.specs.Sites.{Does}
use Rattle.node_walks.specs.Resting.{HasOnlyStarts}
use Rattle.node_walks.specs.declared.mail.ReadyNode.{ReadyNode}
use Rattle.node_walks.specs.Stepped.{OnlySteps}
use Rattle.node_walks.specs.Leaves.{LeavesAside}

-- A start of the receiver node of the table's plan, with arguments of the kinds of the child that
-- it names.
pub record CanRun (board : Board Blueprint) (start : List Entry) : Type 0 where
  pub receiver : IsReceiverStart start
  pub plan : plan_of start ≡ board.frame.over.value
  pub kinds : FitsChild start

-- One block more was claimed.
abbrev pub with_claimed : Aside → Aside
with_claimed aside = record aside { claimed = aside.claimed + 1 }

-- The block was claimed, and this start lies in the home of its root. Beside this start, which it
-- owes and can begin, the hand is at rest.
pub record IsStartPlaced (board : Board Blueprint) (b : Block) (start : List Entry)
    (m m' : Seated Item Entry) : Type 0 where
  pub within : b.index < board.frame.layout.blocks
  pub unnoted : IsUnnoted (view_of m) (root_name board b.index b.generation)
  pub owed : (view_of m').owed ≡ record {
    name = root_name board b.index b.generation;
    above = [];
    lot = [];
  } ∷ []
  pub only : HasOnlyStarts board m'
  pub home : home_at board.frame.layout m' (root_name board b.index b.generation) ≡ Some
      (Some (Start start))
  pub leaves : LeavesAside (with_claimed (aside_of (view_of m))) m m'

-- One block more was claimed, and its root has begun with this start.
abbrev pub with_started : Name → List Entry → Aside → Aside
with_started root start aside =
    record aside {
      noted = record { name = root; start = start } ∷ aside.noted;
      claimed = aside.claimed + 1;
    }

-- An operation was started in this block: the hand has noted the start of its root, and had noted
-- none.
pub record BeginsRoot (board : Board Blueprint) (b : Block) (start : List Entry)
    (m m' : Seated Item Entry) : Type 0 where
  pub within : b.index < board.frame.layout.blocks
  pub unnoted : IsUnnoted (view_of m) (root_name board b.index b.generation)
  pub leaves : LeavesAside
      (with_started (root_name board b.index b.generation) start (aside_of (view_of m))) m m'

-- Each block was missed, at a step of its own: it wasn't free, or another hand moved it.
abbrev pub MissesEach : Board Blueprint → ℕ → Seat (Option Item) (View Item Entry) →
    Seat (Option Item) (View Item Entry) → Type 0
MissesEach board from old new = IsMissedFrom board from board.frame.layout.blocks old new

-- The blocks before it, round from this one, were missed; the block was claimed, and the start put
-- into the home of its root. Nothing else was done.
pub record OnlyPlaces (board : Board Blueprint) (from : ℕ) (b : Block) (start : List Entry)
    (old : HandSeat) (m' : Seated Item Entry) : Type 0 where
  pub claimed : HandSeat
  pub found : IsFoundFrom board from b old claimed
  pub put : IsPut board.frame (root_name board b.index b.generation) (Start start) claimed.me m'

-- So the start was placed in the block, whose root the hand began and stepped; and it went on. It
-- did nothing else. The steps left these nodes ready, in this order.
pub record GoesOnWith (does : Does) (board : Board Blueprint) (from : ℕ) (b : Block)
    (start : List Entry) (old : HandSeat) (m' : Seated Item Entry) (ready : List ReadyNode)
    : Type 0 where
  pub placed : Seated Item Entry
  pub places : OnlyPlaces board from b start old placed
  pub begun : Seated Item Entry
  pub has_begun : Begins ghosts (aim_at board (root_name board b.index b.generation)) placed begun
  pub steps : OnlySteps does board (root_name board b.index b.generation) begun m' ready
