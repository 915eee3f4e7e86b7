use Rattle.std.proofs.Common.{◌≡◌, ◌+◌, ◌≤◌, [], length}
use Rattle.trace_text.specs.declared.limits.TheConstants.{ENTRIES}
use Rattle.trace_text.proofs.ReadLaws.{entries_in}
use Rattle.trace_text.proofs.reading.read_all.Given as goal

abbrev pub invariant-loop-rest : goal.invariant-loop-rest
invariant-loop-rest g l = record {
  read : entries_in (g.T.OnLine.said_on l.opening) (length l.opening.nodes + 2) l.rest l.items.items ≡ entries_in (g.T.OnLine.said_on l.opening) (length l.opening.nodes + 2) l.bytes [];
  few : length l.items.items ≤ ENTRIES;
  base : l.base ≡ length l.opening.nodes + 2;
  small : l.base ≤ 130;
}

abbrev pub decreases-loop-rest : goal.decreases-loop-rest
decreases-loop-rest g l = length l.rest
