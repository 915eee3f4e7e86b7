use Rattle.pictures.proofs.Joining.{Adds-then}
use Rattle.trace_reasons.proofs.sentence.put_hears.Goals as goal

pub returns : goal.returns
returns c = Adds-then c.in_ok-put_subject.ensures c.in_ok-put_nearest.ensures
