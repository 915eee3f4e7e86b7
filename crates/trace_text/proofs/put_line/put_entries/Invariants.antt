use Rattle.std.proofs.Common.{take}
use Rattle.trace_text.specs.Adding.{Adds}
use Rattle.trace_text.specs.Texts.{lines, entry_text}
use Rattle.trace_text.proofs.put_line.put_entries.Given as goal

abbrev pub invariant-loop-entry : goal.invariant-loop-entry
invariant-loop-entry l =
    Adds l.initial.out.items l.out.items (lines entry_text (take l.entry-index l.entries))
