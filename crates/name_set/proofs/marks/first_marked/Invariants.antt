use Rattle.std.proofs.Common.{◌*◌}
use Rattle.name_set.specs.Sets.{NoneBelow}
use Rattle.name_set.proofs.marks.first_marked.Given as goal

abbrev pub invariant-loop-index : goal.invariant-loop-index
invariant-loop-index l = NoneBelow l.bits (64 * l.index)
