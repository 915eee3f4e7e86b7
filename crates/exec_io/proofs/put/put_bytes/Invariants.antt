use Rattle.std.proofs.Common.{length, ◌-◌, ◌≤◌, take, Ok}
use Rattle.exec_io.specs.Writing.{Puts}
use Rattle.exec_io.proofs.put.put_bytes.Given as goal

abbrev pub invariant-loop-done : goal.invariant-loop-done
invariant-loop-done g l = record {
  within : l.done ≤ length l.bytes;
  put : Puts (g.K.Sink.told l.fn.sink) (g.K.Sink.told l.sink) (Ok tt) (take l.done l.bytes);
}

abbrev pub decreases-loop-done : goal.decreases-loop-done
decreases-loop-done g l = length l.bytes - l.done
