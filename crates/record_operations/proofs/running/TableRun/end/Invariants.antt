use Rattle.std.proofs.Common.{◌≡◌, ℕ, ◌<◌, length, get_or, None}
use Rattle.record_operations.specs.Moves.{Clears}
use Rattle.record_operations.proofs.running.TableRun.end.Given as goal

abbrev pub invariant-loop-ticket : goal.invariant-loop-ticket
invariant-loop-ticket g l = record {
  clears : Clears l.initial.run l.run;
  count : length l.run.operations ≡ l.ticket-end;
  free : (t : ℕ) → t < l.ticket → get_or l.run.operations t None ≡ None;
}
