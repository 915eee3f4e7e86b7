-- What a hand has between awaiting children and the last of their starts.
use Rattle.std.specs.Prelude.{◌≡◌, ◌⊎◌, ℕ, ◌<◌, ◌≤◌, ℤ, List, slice_index, None}
use Rattle.life_rules.specs.declared.event.Name.{Name}
use Rattle.life_rules.specs.Views.{beside}
use Rattle.plan_shape.specs.Blueprint.{Blueprint}
use Rattle.table_rules.specs.declared.view.Owed.{Owed}
use Rattle.table_steps.specs.Views.{Board, IsPlaceIn}
use Rattle.table_steps.specs.Seats.{Seated, view_of}
use Rattle.table_steps.specs.Owing.{owing, Owes, AreOfItsBlock}
use Rattle.op_slot.specs.Tends.{Owes as OwesWith}
use Rattle.home_items.specs.declared.entry.Entry.{Entry}
use Rattle.home_items.specs.declared.item.Item.{Item}
use Rattle.exec_recv.specs.Beginnings.{CanStart}

-- The hand owes the start of y, once, with this entry. The home of y is empty, and what the hand
-- owes in the block is of one generation.
pub record OwesBare (board : Board Blueprint) (y : Name) (owed : Owed Entry)
    (m : Seated Item Entry) : Type 0 where
  pub place : IsPlaceIn board y
  pub owes : OwesWith board.frame y owed None m
  pub once : owing (view_of m) y ≤ 1
  pub beside : AreOfItsBlock (view_of m) y

-- as the start of this child of x is owed
abbrev pub owed_below : Name → List Entry → List ℤ → ℕ → Owed Entry
owed_below x start lot n = record { name = beside x n; above = start; lot = lot }

-- y is one of the first so many of these children of x
abbrev pub IsAmong : Name → List ℕ → ℕ → Name → Type 0
IsAmong x children left y = (i : ℕ) × (i < left) × (beside x (slice_index children i) ≡ y)

-- The hand owes the starts of the first so many of these children of x, whose homes are empty. Each
-- other start that it owes can begin.
pub record IsStarting (board : Board Blueprint) (x : Name) (start : List Entry) (lot : List ℤ)
    (children : List ℕ) (left : ℕ) (m : Seated Item Entry) : Type 0 where
  pub bare : (i : ℕ) → i < left →
      OwesBare board (beside x (slice_index children i))
      (owed_below x start lot (slice_index children i)) m
  pub each : (y : Name) → Owes (view_of m) y → IsAmong x children left y ⊎ CanStart board y m
