use Rattle.std.proofs.Common.{arith}
use Rattle.pictures.specs.Traces.Headings.{column_text}
use Rattle.pictures.proofs.TraceLaws.Rows.{row-each, row-more}
use Rattle.pictures.proofs.traces.picture.put_columns.Goals as goal

pub loop-block-preserved : goal.loop-block-preserved
loop-block-preserved c =
    row-more column_text c.args.blocks c.loop-block.block c.loop-block.invariant c.in_ok-put_column.ensures (omega arith)

pub returns : goal.returns
returns c = row-each column_text c.args.blocks c.loop-block.block c.loop-block.invariant (omega arith)
