use Rattle.std.proofs.Common.{refl, subst, sym, ◌≡◌, arith}
use Rattle.record_lines.specs.Lines.{HasNoLineFeed}
use Rattle.part_lines.specs.Faults.{IsNoLine}
use Rattle.part_lines.specs.Readers.{bytes_ahead}
use Rattle.part_lines.proofs.FillLaws.{at_end_fault, full_window, held_before, keeps_then}
use Rattle.part_lines.proofs.reader.fill_line.Goals as goal

pub returns-then-is_full-clause-fault : goal.returns-then-is_full-clause-fault
returns-then-is_full-clause-fault g c =
    let free : HasNoLineFeed c.reads.window = subst HasNoLineFeed c.bytes.ensures c.in_default.ensures in
    (refl, held_before (IsNoLine c.args.number) _ (bytes_ahead c.reads.window (g.F.Folder.left c.reads.file)) c.reads.invariant.ahead (full_window c.args.number c.reads.window (g.F.Folder.left c.reads.file) free (c.is_full.ensures.full c.if-is_full.true)))

pub returns-in-Ok-eq0-clause-fault : goal.returns-in-Ok-eq0-clause-fault
returns-in-Ok-eq0-clause-fault g c =
    let free : HasNoLineFeed c.reads.window = subst HasNoLineFeed c.bytes.ensures c.in_default.ensures in
    let zero_read : c.in-Ok-eq0.field-0 ≡ 0 = omega (arith, c.in-Ok-eq0.field-0-test) in
    let same : c.fill.new.self ≡ c.reads.window = c.in-Ok-eq0.ensures.none zero_read in
    let still : HasNoLineFeed c.fill.new.self = subst HasNoLineFeed (sym same) free in
    at_end_fault c.args.number c.fill.new.self (g.F.Folder.left c.fill.new.file) (bytes_ahead c.args.window.now (g.F.Folder.left c.args.file.now)) c.at_end.result c.at_end.ensures still
    (c.in-Ok-eq0.ensures.end zero_read)
    (keeps_then _ (bytes_ahead c.reads.window (g.F.Folder.left c.reads.file)) _ c.reads.invariant.ahead c.in-Ok-eq0.ensures.ahead)
