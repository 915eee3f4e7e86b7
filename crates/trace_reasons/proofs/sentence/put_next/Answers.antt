use Rattle.pictures.proofs.Joining.{Adds-then}
use Rattle.trace_reasons.proofs.sentence.put_next.Goals as goal

pub returns-in_ok-put_place-in-Some : goal.returns-in_ok-put_place-in-Some
returns-in_ok-put_place-in-Some c = rw c.in-Some.is (Adds-then c.in_ok-put_between-in-Some.ensures c.in_ok-put_place-in-Some.ensures)
