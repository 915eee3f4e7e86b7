-- Hand 0 with its desk.
use Rattle.std.specs.Prelude.{◌≡◌, ℕ, ◌-◌, List, length, slice_get, Option}
use Rattle.plan_shape.specs.Blueprint.{Blueprint}
use Rattle.deck_relay.specs.declared.desk.Desk.{Desk}
use Rattle.table_steps.specs.Views.{Board}

-- The last desk is hand 0's.
abbrev pub last_desk : List Desk → Option Desk
last_desk desks = slice_get desks (length desks - 1)

-- A mark tells of this table alone, of this desk, and of a hand that claimed no block.
pub record IsMarkedBy (is : Board Blueprint → Type 0) (claimed : ℕ) (marked : Option Desk)
    (board : Board Blueprint) (desk : Option Desk) : Type 0 where
  pub is_on : is board
  pub alone : (other : Board Blueprint) → is other → other ≡ board
  pub unclaimed : claimed ≡ 0
  pub desk_is : marked ≡ desk
