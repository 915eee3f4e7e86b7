use Rattle.std.proofs.Common.{◌≡◌, ◌≤◌, length, vec_capacity}
use Rattle.exec_bulk.proofs.Applying.{IsDoneTo}
use Rattle.exec_bulk.proofs.elements.make_each.Given as goal

abbrev pub invariant-loop-place : goal.invariant-loop-place
invariant-loop-place g l = record {
  done : IsDoneTo (g.E.Element.job l.element) l.first l.numbers l.place l.made.items;
  count : length l.made.items ≡ l.place;
  room : length l.numbers ≤ vec_capacity l.made;
}
