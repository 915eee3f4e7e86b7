-- What adding a column of thefts does, and taking one.
use Rattle.std.specs.Prelude.{ℕ, ◌+◌, List, length}
use Rattle.deck_relay.specs.declared.deck.Deck.{Deck}
use Rattle.deck_relay.specs.Columns.{AreStanding, KeepAll}

-- One column more is whole, and all together they keep what they had.
pub record AddsColumn (column : ℕ) (old new : List Deck) : Type 0 where
  pub stand : AreStanding (length old) (column + 1) 0 new
  pub keep : KeepAll old new

-- The column is gone, and all together they keep what they had.
pub record TakesColumn (column : ℕ) (old new : List Deck) : Type 0 where
  pub stand : AreStanding (length old) column 0 new
  pub keep : KeepAll old new
