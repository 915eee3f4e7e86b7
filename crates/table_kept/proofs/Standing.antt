-- Where a step of a hand begins.
use Rattle.std.proofs.Common.{◌≡◌, ℕ}
use Rattle.std.specs.Prelude.{Option}
use mathlib.Core.Option.{some}
use lib.ListN.{get_elem?}
use Rattle.atomic_table.specs.Table as table
use Rattle.table_rules.specs.declared.cargo.Cargo.{Ghosts}
use Rattle.table_rules.specs.declared.frame.Frame.{Frame}
use Rattle.table_rules.specs.declared.view.View.{View}
use Rattle.table_rules.specs.Running.{Running}

-- The hand's number and what it knows, in a state in which the rule holds.
pub record Standing {P E O : Type 0} (cargo : Ghosts P E O) (f : Frame O) : Type 0 where
  pub state : table.State (Option P) (View P E)
  pub id : ℕ
  pub view : View P E
  pub running : Running cargo f state
  pub at : get_elem? state.views id ≡ some view
