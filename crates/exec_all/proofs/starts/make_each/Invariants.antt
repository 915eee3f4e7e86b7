use Rattle.std.proofs.Common.{◌≤◌, vec_capacity}
use Rattle.exec_all.specs.Starts.{AreCopies}
use Rattle.exec_all.proofs.starts.make_each.Given as goal

abbrev pub invariant-loop : goal.invariant-loop
invariant-loop l = record {
  made : AreCopies l.values l.counter l.made.items;
  room : l.count ≤ vec_capacity l.made;
}
