use Rattle.std.proofs.Common.{◌≡◌, drop}
use Rattle.common_lemmas.specs.Lists.{are_different}
use Rattle.step_reasons.proofs.life_reasons.are_different.Given as goal

abbrev pub invariant-loop-index : goal.invariant-loop-index
invariant-loop-index l = are_different l.nodes ≡ are_different (drop l.index l.nodes)
