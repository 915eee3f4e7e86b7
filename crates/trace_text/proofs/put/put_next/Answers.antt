use Rattle.trace_text.proofs.Added.{adds_then}
use Rattle.trace_text.proofs.put.put_next.Goals as goal

pub returns : goal.returns
returns c = adds_then c.put_number.result _ _ c.in_ok-put.ensures c.put_number.ensures
