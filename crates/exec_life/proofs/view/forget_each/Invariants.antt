use Rattle.exec_life.specs.ViewWrites.{ForgetsFirst}
use Rattle.exec_life.proofs.view.forget_each.Given as goal

abbrev pub invariant-loop-view : goal.invariant-loop-view
invariant-loop-view l = ForgetsFirst l.fn.views l.views l.block l.view-index
