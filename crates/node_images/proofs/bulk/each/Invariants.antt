use Rattle.std.proofs.Common.{◌≡◌, ◌≤◌, length, vec_capacity}
use Rattle.node_images.proofs.Elements.{IsDoneTo}
use Rattle.node_images.proofs.bulk.each.Given as goal

abbrev pub invariant-loop-index : goal.invariant-loop-index
invariant-loop-index l = record {
  done : IsDoneTo l.job l.numbers l.index l.made.items;
  count : length l.made.items ≡ l.index;
  room : length l.numbers ≤ vec_capacity l.made;
}
