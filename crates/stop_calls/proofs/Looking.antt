-- How the look after an arming is made.
use Rattle.std.proofs.Common.{◌≡◌, ◌<◌, length, sym, subst}
use Rattle.life_rules.specs.declared.event.Name.{Name}
use Rattle.life_rules.specs.declared.event.SourceRef.{SourceRef}
use Rattle.life_rules.specs.declared.event.SourceRef.TheVariants.{Scope, Node}
use Rattle.table_steps.specs.Views.{Board, IsPlaceIn}
use Rattle.table_steps.specs.Sights.{IsSourceIn}
use Rattle.stop_calls.specs.Armings.{IsSourceAt}

-- a source of the tree in the block of a place is one of the table's
pub source-in : {O : Type 0} (board : Board O) (x : Name) (source : SourceRef) → IsPlaceIn board x →
    board.frame.layout.nodes ≡ length board.frame.tree → IsSourceAt board.frame.tree x.block source → IsSourceIn board source
source-in board x Scope place nodes at = record { spot = tt; is_one = tt }
source-in board x (Node y) place nodes at = record {
  spot = (
    subst (λ b. b < board.frame.layout.blocks) (sym at.0) place.block,
    subst (λ n. y.node < n) (sym nodes) at.1,
  );
  is_one = at.2;
}
