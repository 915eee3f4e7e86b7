use Rattle.exec_adapt.specs.Tops.{EmptiesTops}
use Rattle.exec_adapt.proofs.opening.empty_others.Given as goal

abbrev pub invariant-loop-number : goal.invariant-loop-number
invariant-loop-number g l = EmptiesTops l.fn.site l.fn.taken l.number l.fn.hand l.hand
