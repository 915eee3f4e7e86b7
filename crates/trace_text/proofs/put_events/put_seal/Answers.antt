use Rattle.trace_text.proofs.Added.{adds_then}
use Rattle.trace_text.proofs.put_events.put_seal.Goals as goal

pub returns : goal.returns
returns c = adds_then c.put_scope.result _ _ c.in_ok-put.ensures c.put_scope.ensures
