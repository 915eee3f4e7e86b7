use Rattle.trace_text.proofs.Added.{adds_then}
use Rattle.trace_text.proofs.put_line.put_entry_text.Goals as goal

pub returns : goal.returns
returns c =
    let r = c.put_event.result in
    adds_then r _ _ c.in_ok-put_number.ensures
    (adds_then r _ _ c.in_ok-put.ensures c.put_event.ensures)
