use Rattle.pictures.proofs.Joining.{Adds-then}
use Rattle.trace_reasons.proofs.sentence.put_scan.Goals as goal

pub returns : goal.returns
returns c = Adds-then c.in_ok-put_between.ensures c.in_ok-put_source_name.ensures
