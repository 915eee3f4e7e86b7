use Rattle.std.proofs.Common.{length, arith}
use Rattle.pictures.specs.Traces.Bars.{bar_at}
use Rattle.pictures.proofs.TraceLaws.Rows.{row-each, row-more}
use Rattle.pictures.proofs.traces.picture.put_bars.Goals as goal

pub loop-number-preserved : goal.loop-number-preserved
loop-number-preserved c =
    let entries = c.args.entries.now in
    row-more (bar_at c.args.frame entries) (length entries) c.loop-number.number c.loop-number.invariant c.in_ok-put_bar_at.ensures (omega arith)

pub returns : goal.returns
returns c =
    let entries = c.args.entries.now in
    row-each (bar_at c.args.frame entries) (length entries) c.loop-number.number c.loop-number.invariant (omega arith)
