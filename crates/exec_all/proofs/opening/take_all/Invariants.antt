use Rattle.exec_all.proofs.Emptied.{IsTaking}
use Rattle.exec_all.proofs.opening.take_all.Given as goal

abbrev pub invariant-loop-child : goal.invariant-loop-child
invariant-loop-child g l = IsTaking l.site l.taken l.children l.all l.joining l.child-index l.fn.hand l.hand
