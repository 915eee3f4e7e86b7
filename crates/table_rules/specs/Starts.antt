-- With which start each node began.
use Rattle.std.specs.Prelude.{◌≡◌, ℕ, true, false, ◌∷◌, Some}
use Rattle.life_rules.specs.declared.event.Name.{Name}
use Rattle.node_tree.specs.Tree.{parent_of}
use Rattle.life_rules.specs.Words.{is_idle}
use Rattle.life_rules.specs.Views.{beside}
use Rattle.life_rules.specs.States.{is_live, control_at}
use Rattle.table_rules.specs.declared.cargo.Cargo.{Ghosts}
use Rattle.table_rules.specs.Scenes.{Full, Scene}

pub record StartsStand {P E O : Type 0} (cargo : Ghosts P E O) (over : O)
    (s : Scene P E) : Type 0 where
  -- a full home shows the start with which its node began
  pub shows : (x : Name) (item : P) → is_live s.state x ≡ true → s.home x.block x.node ≡ Full item →
      cargo.start item ≡ s.past.start x
  -- a start goes on with that of the node's parent
  pub descends : (x : Name) (p : ℕ) → is_idle (control_at s.state x) ≡ false →
      parent_of s.state.tree x.node ≡ Some p →
      (e : E) × (s.past.start x ≡ e ∷ s.past.start (beside x p))
  -- all starts in the table share what it was opened over
  pub key : (x : Name) → is_idle (control_at s.state x) ≡ false → cargo.key (s.past.start x) ≡ over
