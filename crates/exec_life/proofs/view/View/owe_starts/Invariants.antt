use Rattle.std.proofs.Common.{take}
use Rattle.exec_life.specs.ViewWrites.{OwesStarts}
use Rattle.exec_life.proofs.view.View.owe_starts.Given as goal

abbrev pub invariant-loop-node : goal.invariant-loop-node
invariant-loop-node l = OwesStarts l.fn.self l.self l.block (take l.node-index l.nodes)
