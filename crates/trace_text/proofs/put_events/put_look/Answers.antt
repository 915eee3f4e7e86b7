use Rattle.trace_text.proofs.Added.{adds_then}
use Rattle.trace_text.proofs.put_events.put_look.Goals as goal

pub returns : goal.returns
returns c =
    let r = c.put_after.result in
    adds_then r _ _ c.in_ok-put.ensures
    (adds_then r _ _ c.in_ok-put_source.ensures c.put_after.ensures)
