use Rattle.record_lines.proofs.CutterLaws.{GoesOn-from_kept, EndsLine-from_kept}
use Rattle.record_lines.proofs.cutting.Cutter.take.Goals as goal

pub returns-in_default-clause-lines : goal.returns-in_default-clause-lines
returns-in_default-clause-lines c =
    λ bytes stood. GoesOn-from_kept c.args.self.now c.keep.new.self bytes c.args.piece.now stood c.in_default.ensures c.keep.ensures

pub returns-clause-lines : goal.returns-clause-lines
returns-clause-lines c =
    λ bytes stood. EndsLine-from_kept c.args.self.now c.end_line.new.self bytes c.args.piece.now c.in-Some.end stood c.in-Some.ensures c.end_line.ensures.rest c.end_line.ensures.line
