use Rattle.trace_text.proofs.Added.{adds_then}
use Rattle.trace_text.proofs.put_events.put_rest.Goals as goal

pub returns : goal.returns
returns c =
    let r = c.put_resting.result in
    adds_then r _ _ c.in_ok-put.ensures
    (adds_then r _ _ c.in_ok-put_place.ensures
    (adds_then r _ _ c.in_ok-put-2.ensures c.put_resting.ensures))
