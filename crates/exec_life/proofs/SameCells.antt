-- Views of the same blocks and nodes.
use Rattle.std.proofs.Common.{◌≡◌}
use Rattle.exec_life.specs.ViewLists.{ViewLists}

-- the view has cells for the same blocks and nodes
pub record SameCells (old new : ViewLists) : Type 0 where
  pub blocks : new.blocks ≡ old.blocks
  pub nodes : new.nodes ≡ old.nodes
