use Rattle.std.proofs.Common.{◌≡◌, ◌-◌, [], length}
use Rattle.trace_text.specs.Reading.{lines_in, nodes_of}
use Rattle.trace_text.proofs.read_opening.read_nodes.Given as goal

abbrev pub invariant-loop-number : goal.invariant-loop-number
invariant-loop-number l = record {
  read : nodes_of l.total (l.total - l.number) (lines_in l.lines.rest.now).ended l.nodes.items ≡ nodes_of l.total l.total (lines_in l.initial.lines.rest.now).ended [];
  left : (lines_in l.lines.rest.now).rest ≡ (lines_in l.initial.lines.rest.now).rest;
  count : length l.nodes.items ≡ l.number;
}
