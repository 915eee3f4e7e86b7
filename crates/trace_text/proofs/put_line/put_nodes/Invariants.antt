use Rattle.std.proofs.Common.{take}
use Rattle.trace_text.specs.Adding.{Adds}
use Rattle.trace_text.specs.Texts.{lines, node_text}
use Rattle.trace_text.proofs.put_line.put_nodes.Given as goal

abbrev pub invariant-loop-number : goal.invariant-loop-number
invariant-loop-number l =
    Adds l.initial.out.items l.out.items (lines node_text (take l.number l.tree))
