use Rattle.std.proofs.Common.{◌<◌, ◌∙◌, length, refl, arith}
use Rattle.std.proofs.lemmas.Option.{slice_get_read}
use Rattle.pictures.specs.Traces.Picture.{shown_length}
use Rattle.pictures.proofs.TraceLaws.Rows.{length-here, longest-all, longest-more}
use Rattle.pictures.proofs.traces.picture.longest.Goals as goal

pub loop-number-preserved : goal.loop-number-preserved
loop-number-preserved c =
    let entries = c.args.entries.now in
    let frame = c.args.frame in
    let n = c.loop-number.number in
    let here : n < length entries = omega arith in
    let entry = c.index-entries-number.result in
    let at = slice_get_read entries (length entries) n entry refl here c.index-entries-number.is in
    c.max-most.ensures ∙ longest-more (shown_length frame entries) (length entries) n c.loop-number.most c.in_ok-length_at.field-0 c.loop-number.invariant
    (c.in_ok-length_at.ensures ∙ length-here frame entries n entry at) here

pub returns : goal.returns
returns c =
    let entries = c.args.entries.now in
    longest-all (shown_length c.args.frame entries) (length entries) c.loop-number.number c.loop-number.most c.loop-number.invariant (omega arith)
