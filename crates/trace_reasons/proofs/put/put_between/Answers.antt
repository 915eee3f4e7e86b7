use Rattle.pictures.proofs.Joining.{Adds-then}
use Rattle.trace_reasons.proofs.put.put_between.Goals as goal

pub returns : goal.returns
returns c = Adds-then c.in_ok-put.ensures (Adds-then c.in_ok-put_number.ensures c.in_ok-put-2.ensures)
