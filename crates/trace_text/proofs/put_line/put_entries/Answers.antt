use Rattle.trace_text.proofs.Added.{adds_more, adds_each}
use Rattle.std.proofs.Common.{[], ◌∷◌, ◌++◌, arith}
use Rattle.trace_text.specs.Texts.{line_feed, entry_text}
use Rattle.trace_text.proofs.put_line.put_entries.Goals as goal

pub loop-entry-preserved : goal.loop-entry-preserved
loop-entry-preserved c =
    adds_more (λ e. entry_text e ++ line_feed ∷ []) c.args.entries.now c.loop-entry.entry-index c.entry-item.result c.entry-item.result
    c.loop-entry.invariant c.in_ok-put_entry.ensures c.loop-entry-test.true c.entry-item.is

pub returns : goal.returns
returns c =
    adds_each (λ e. entry_text e ++ line_feed ∷ []) c.args.entries.now c.loop-entry.entry-index c.loop-entry.invariant (omega (arith, c.loop-entry-test.false))
