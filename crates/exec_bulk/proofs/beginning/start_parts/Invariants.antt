use Rattle.std.proofs.Common.{◌≤◌}
use Rattle.home_items.specs.Parcels.{delivery_of}
use Rattle.exec_bulk.specs.Rows.{numbers_in, parts_for}
use Rattle.exec_bulk.proofs.Starting.{ArePut}
use Rattle.exec_bulk.proofs.beginning.start_parts.Given as goal

abbrev pub invariant-loop-left : goal.invariant-loop-left
invariant-loop-left g l = record {
  some : 1 ≤ l.left;
  within : l.left ≤ parts_for (numbers_in l.fn.done);
  put : ArePut l.site l.fn.taken (delivery_of l.fn.label l.fn.done) l.fn.row l.fn.hand l.left l.initial.hand l.hand;
}

abbrev pub decreases-loop-left : goal.decreases-loop-left
decreases-loop-left g l = l.left
