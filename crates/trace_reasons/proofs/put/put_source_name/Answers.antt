use Rattle.pictures.proofs.Joining.{Adds-then}
use Rattle.trace_reasons.proofs.put.put_source_name.Goals as goal

pub returns-in_ok-put_place-in-At : goal.returns-in_ok-put_place-in-At
returns-in_ok-put_place-in-At c = rw c.in-At.is (Adds-then c.in_ok-put-in-At.ensures c.in_ok-put_place-in-At.ensures)
