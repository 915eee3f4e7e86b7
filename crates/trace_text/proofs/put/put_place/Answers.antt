use Rattle.trace_text.proofs.Added.{adds_then}
use Rattle.trace_text.proofs.put.put_place.Goals as goal

pub returns : goal.returns
returns c =
    let r = c.put_number-2.result in
    adds_then r _ _ c.in_ok-put_number.ensures
    (adds_then r _ _ c.in_ok-put.ensures c.put_number-2.ensures)
