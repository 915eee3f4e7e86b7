-- Where the nodes of a table over a plan lie.
use Rattle.std.proofs.Common.{◌≡◌, ℕ, ◌<◌, ◌≤◌, true, arith}
use Rattle.std.specs.Prelude.{length}
use Rattle.life_rules.specs.declared.event.Name.{Name}
use Rattle.node_tree.specs.Tree.{IsTree, is_child}
use Rattle.node_tree.proofs.Walk.{parent_within}
use Rattle.life_kept.proofs.Trees.{child-parent}
use Rattle.plan_shape.specs.Blueprint.{Blueprint}
use Rattle.table_steps.specs.Views.{Board, IsPlaceIn}
use Rattle.op_slot.specs.Tends.{HasPlaces}
use Rattle.exec_recv.specs.Over.{IsOver}

-- in a tree the children of a node stand before it
pub tree-places : (board : Board Blueprint) (x : Name) → IsTree board.frame.tree → length board.frame.tree ≤ board.frame.layout.nodes →
    IsPlaceIn board x → HasPlaces board.frame x
tree-places board x is_tree wide place = record { wide = wide; node = place.node; kids = λ n child. before n child }
  where
    before : (n : ℕ) → is_child board.frame.tree x.node n ≡ true → n < x.node
    before n child = (parent_within board.frame.tree n x.node is_tree (child-parent board.frame.tree x.node n child)).0

pub over-places : (board : Board Blueprint) (plan : Blueprint) (x : Name) → IsOver board plan → IsPlaceIn board x →
    HasPlaces board.frame x
over-places board plan x over place =
    let nodes = over.nodes in tree-places board x over.is_tree (omega (arith, nodes)) place
