use Rattle.start_laws.proofs.Rows.{parts-begin}
use Rattle.start_laws.proofs.bulks.parts_may_begin.Goals as goal

pub returns : goal.returns
returns c = parts-begin
