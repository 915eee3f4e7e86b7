use Rattle.pictures.proofs.Joining.{Adds-then}
use Rattle.trace_reasons.proofs.sentence.put_nearest.Goals as goal

pub returns-in_ok-put_source_name-in-Some : goal.returns-in_ok-put_source_name-in-Some
returns-in_ok-put_source_name-in-Some c = rw c.in-Some.is (Adds-then c.in_ok-put-in-Some.ensures c.in_ok-put_source_name-in-Some.ensures)
