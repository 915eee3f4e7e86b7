use Rattle.exec_bulk.specs.Opens.{GathersParts}
use Rattle.exec_bulk.proofs.opening.gather_parts.Given as goal

abbrev pub invariant-loop-part : goal.invariant-loop-part
invariant-loop-part g l = GathersParts l.site l.taken l.part l.made l.fn.hand l.hand
