use Rattle.std.proofs.Common.{◌<◌, length, refl, arith}
use Rattle.std.proofs.lemmas.Option.{slice_get_read}
use Rattle.pictures.proofs.Joining.{Adds-same}
use Rattle.pictures.specs.Traces.Picture.{row_of}
use Rattle.pictures.proofs.TraceLaws.Rows.{row-each, row-here, row-more}
use Rattle.pictures.proofs.traces.picture.put_rows.Goals as goal

pub loop-number-preserved : goal.loop-number-preserved
loop-number-preserved c =
    let entries = c.args.entries.now in
    let n = c.loop-number.number in
    let here : n < length entries = omega arith in
    let entry = c.index-entries-number.result in
    let at = slice_get_read entries (length entries) n entry refl here c.index-entries-number.is in
    row-more (row_of c.args.frame c.args.refused entries) (length entries) n c.loop-number.invariant
    (Adds-same (row-here c.args.frame c.args.refused entries n entry at) c.in_ok-put_shown_row.ensures) here

pub returns : goal.returns
returns c =
    let entries = c.args.entries.now in
    row-each (row_of c.args.frame c.args.refused entries) (length entries) c.loop-number.number c.loop-number.invariant (omega arith)
