use Rattle.record_lines.proofs.CutterLaws.{StandsAfter-start}
use Rattle.record_lines.proofs.cutting.Cutter.new.Goals as goal

pub returns : goal.returns
returns c = StandsAfter-start _ c.in_ok-kept.ensures.items
