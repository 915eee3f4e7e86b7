use Rattle.trace_text.proofs.Cutting.{cut-is}
use Rattle.trace_text.proofs.cut.cut_at.Goals as goal

pub returns : goal.returns
returns c = cut-is c.args.byte c.args.bytes.now c.split.result c.split.ensures
