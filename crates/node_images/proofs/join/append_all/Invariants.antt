use Rattle.std.proofs.Common.{◌≡◌, ◌++◌, take}
use Rattle.node_images.proofs.join.append_all.Given as goal

abbrev pub invariant-loop-datum : goal.invariant-loop-datum
invariant-loop-datum l = l.joined ≡ l.initial.joined ++ take l.datum-index l.datum-items
