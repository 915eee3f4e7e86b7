-- The starts that a hand owes between two steps: each can begin.
use Rattle.std.specs.Prelude.{◌≡◌, ◌≤◌, false}
use Rattle.life_rules.specs.declared.event.Name.{Name}
use Rattle.node_tree.specs.Tree.{is_root}
use Rattle.plan_shape.specs.Blueprint.{Blueprint}
use Rattle.table_steps.specs.Views.{Board, IsPlaceIn}
use Rattle.table_steps.specs.Begins.{CanBegin}
use Rattle.table_steps.specs.Seats.{Seated, view_of}
use Rattle.table_steps.specs.Owing.{owing, Owes, AreOfItsBlock}
use Rattle.table_steps.specs.Slots.{has_seen}
use Rattle.home_items.specs.contracts.item.ItemCargo.TheImpl.{ghosts}
use Rattle.home_items.specs.declared.entry.Entry.{Entry}
use Rattle.home_items.specs.declared.item.Item.{Item}
use Rattle.home_items.specs.Contents.{Start}
use Rattle.home_items.specs.Items.{start_in}
use Rattle.home_items.specs.Fits.{FitsHome}

-- The node's home keeps its start, which fits by what the hand has seen of requests. The hand owes
-- it once, and what it owes in the block is of one generation.
pub record CanStart (board : Board Blueprint) (y : Name) (m : Seated Item Entry) : Type 0 where
  pub place : IsPlaceIn board y
  pub begin : CanBegin ghosts board.frame m y
  pub is_start : begin.item ≡ Start (start_in begin.item)
  pub fit : FitsHome begin.item y.node (has_seen board.frame.tree (view_of m) y)
  pub once : owing (view_of m) y ≤ 1
  pub beside : AreOfItsBlock (view_of m) y

-- so it is of each start that the hand owes
abbrev pub AllCanStart : Board Blueprint → Seated Item Entry → Type 0
AllCanStart board m = (y : Name) → Owes (view_of m) y → CanStart board y m

-- no start that it owes is of a root
abbrev pub OwesNoRoot : Board Blueprint → Seated Item Entry → Type 0
OwesNoRoot board m = (y : Name) → Owes (view_of m) y → is_root board.frame.tree y.node ≡ false
