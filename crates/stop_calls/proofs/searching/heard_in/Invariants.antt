use Rattle.stop_calls.specs.Searches.{NoneInBlock}
use Rattle.stop_calls.proofs.searching.heard_in.Given as goal

abbrev pub invariant-loop-node : goal.invariant-loop-node
invariant-loop-node l = NoneInBlock l.tree l.source l.block l.from l.node
