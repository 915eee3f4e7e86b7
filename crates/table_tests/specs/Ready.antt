-- What the tests say of a table of operations, and of hands that have done nothing.
use Rattle.std.specs.Prelude.{◌≡◌, ℕ, true, Option}
use Rattle.life_rules.specs.StopSteps.{is_counting}
use Rattle.atomic_table.specs.declared.shared.Seat.{Seat}
use Rattle.table_rules.specs.declared.view.View.{View}
use Rattle.table_steps.specs.Views.{Board, IsHandOf, knows}
use Rattle.table_use.specs.declared.cargo.Entry.{Entry}
use Rattle.table_use.specs.declared.cargo.Item.{Item}
use Rattle.table_use.specs.Uses.{use_tree, IsIdle}
use Rattle.table_use.specs.Members.{MayAssociate}

-- what all starts of such a table say
abbrev pub step : ℕ
step = 7

-- the table is of such operations, and has so many blocks and a counting scope
pub record IsUse (board : Board ℕ) (blocks : ℕ) : Type 0 where
  pub tree : board.frame.tree ≡ use_tree
  pub step_is : board.frame.over.value ≡ step
  pub blocks_are : board.frame.layout.blocks ≡ blocks
  pub kind : is_counting board.frame.kind ≡ true

-- the hand with this number is one of the table's, and has done nothing
pub record IsReady (board : Board ℕ) (number : ℕ)
    (hand : Seat (Option Item) (View Item Entry)) : Type 0 where
  pub table : IsHandOf board hand
  pub member : MayAssociate board hand
  pub number_is : (knows hand).number ≡ number
  pub idle : IsIdle hand.me
