use Rattle.std.proofs.Common.{◌≡◌}
use Rattle.exec_life.specs.Grids.{at}
use Rattle.exec_life.proofs.GridLemmas.{begun_at}
use Rattle.exec_life.proofs.grid.Grid.clear_row.Given as goal

abbrev pub invariant-loop-node : goal.invariant-loop-node
invariant-loop-node g l = record {
  rows : l.self.rows ≡ l.fn.self.rows;
  columns : l.self.columns ≡ l.fn.self.columns;
  ends : l.node-end ≡ l.fn.self.columns;
  cells : at l.value l.self ≡ begun_at (at l.value l.fn.self) l.block l.node l.value;
}
