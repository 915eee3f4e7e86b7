use Rattle.std.specs.Prelude.{◌*◌, length}
use Rattle.stop_calls.specs.Cursors.{cursor, NoneBetween}
use Rattle.stop_calls.proofs.searching.next_place.Given as goal

abbrev pub invariant-loop-block : goal.invariant-loop-block
invariant-loop-block l = NoneBetween l.tree l.scan.source (cursor l.tree l.scan) (l.block * length l.tree)
