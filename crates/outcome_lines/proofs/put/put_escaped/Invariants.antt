use Rattle.std.proofs.Common.{◌≡◌, ◌≤◌, ◌<◌, ℕ, true, take, get_or, Ok}
use Rattle.std.specs.List.{flat_map}
use Rattle.outcome_lines.specs.Line.{escaped, is_plain}
use Rattle.exec_io.specs.Writing.{Puts}
use Rattle.outcome_lines.proofs.put.put_escaped.Given as goal

abbrev pub invariant-loop-at : goal.invariant-loop-at
invariant-loop-at g l = record {
  behind : l.start ≤ l.at;
  plain : (k : ℕ) → l.start ≤ k → k < l.at → is_plain (get_or l.bytes k 0) ≡ true;
  put : Puts (g.K.Sink.told l.fn.sink) (g.K.Sink.told l.sink) (Ok tt) (flat_map escaped (take l.start l.bytes));
}
