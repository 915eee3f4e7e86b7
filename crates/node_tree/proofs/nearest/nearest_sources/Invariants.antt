use Rattle.std.proofs.Common.{◌≡◌, ◌<◌, ◌≤◌, length, ℕ, get_or}
use Rattle.node_tree.specs.Tree.{nearest}
use Rattle.node_tree.specs.declared.nearest.NearestSource.TheVariants.{Scope}
use Rattle.node_tree.specs.Nearest.{read}
use Rattle.node_tree.proofs.nearest.nearest_sources.Given as goal

abbrev pub invariant-loop-node : goal.invariant-loop-node
invariant-loop-node l = record {
  as_long : length l.table.items ≡ length l.nodes;
  below : (k : ℕ) → k < l.node → get_or l.table.items k Scope ≡ Scope;
  above : (k : ℕ) → l.node ≤ k → k < length l.nodes → read (get_or l.table.items k Scope) ≡ nearest l.nodes k;
}
