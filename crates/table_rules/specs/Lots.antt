-- What an await fixed for the children that it named.
use Rattle.std.specs.Prelude.{◌≡◌, ℕ, true, false, not, ◌||◌}
use Rattle.life_rules.specs.declared.event.Name.{Name}
use Rattle.node_tree.specs.Tree.{is_child}
use Rattle.life_rules.specs.Words.{is_idle, is_done}
use Rattle.life_rules.specs.Views.{beside}
use Rattle.life_rules.specs.States.{control_at}
use Rattle.table_rules.specs.declared.cargo.Cargo.{Ghosts}
use Rattle.table_rules.specs.Scenes.{Full, is_full, Scene}
use Rattle.table_rules.specs.Homes.{is_waiting}

pub record LotsStand {P E O : Type 0} (cargo : Ghosts P E O) (s : Scene P E) : Type 0 where
  -- the item of a waiting node has the lot of its last await
  pub own : (x : Name) (item : P) → is_waiting (control_at s.state x) ≡ true →
      s.home x.block x.node ≡ Full item → cargo.lot item ≡ s.past.lot x
  -- and the start of each child that began since then draws it
  pub below : (x : Name) (n : ℕ) → is_waiting (control_at s.state x) ≡ true →
      is_child s.state.tree x.node n ≡ true → is_idle (control_at s.state (beside x n)) ≡ false →
      (not (is_done (control_at s.state (beside x n))) || is_full (s.home x.block n)) ≡ true →
      cargo.drawn (s.past.start (beside x n)) ≡ s.past.lot x
