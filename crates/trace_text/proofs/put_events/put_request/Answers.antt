use Rattle.trace_text.proofs.Added.{adds_then}
use Rattle.trace_text.proofs.put_events.put_request.Goals as goal

pub returns : goal.returns
returns c =
    let r = c.put_cause.result in
    adds_then r _ _ c.in_ok-put.ensures
    (adds_then r _ _ c.in_ok-put_source.ensures
    (adds_then r _ _ c.in_ok-put-2.ensures c.put_cause.ensures))
