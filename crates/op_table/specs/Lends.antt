-- How a hand ends that lent what lies in one of its homes.
use Rattle.std.specs.Prelude.{Option, Some, None, IfNone, IfSome}
use Rattle.std.specs.Borrow.{MutBor}
use Rattle.life_rules.specs.declared.event.Name.{Name}
use Rattle.atomic_table.specs.declared.shared.Seat.{Seat}
use Rattle.table_rules.specs.declared.view.View.{View}
use Rattle.table_steps.specs.Views.{Board, Stays}
use Rattle.table_steps.specs.Swaps.{IsSwapped}

module _ {P E O : Type 0} (board : Board O) (x : Name) (old new : Seat (Option P) (View P E)) where
  -- in the node's home, in which the one lay, lies what was left there
  pub record EndsWith (was left : Option P) : Type 0 where
    pub stays : Stays board old new
    pub swapped : IsSwapped board.frame x left was old.me new.me

  -- the home was lent, and this was left in it
  abbrev pub EndsWithHome : Option (MutBor (Option P)) → Option P → Type 0
  EndsWithHome lent left = IfSome lent (λ home. EndsWith home.now left)

  -- the item in the home was lent, and this was left in its place
  abbrev pub EndsWithItem : Option (MutBor P) → P → Type 0
  EndsWithItem lent left = IfSome lent (λ item. EndsWith (Some item.now) (Some left))

  -- nothing was lent, since the home is empty, and it stays so
  abbrev pub EndsWithNone : Option (MutBor P) → Type 0
  EndsWithNone lent = IfNone lent (EndsWith None None)
