use Rattle.trace_text.proofs.Added.{adds_then}
use Rattle.trace_text.proofs.put_line.put_node_text.Goals as goal

pub returns : goal.returns
returns c =
    let r = c.put_mark.result in
    adds_then r _ _ c.in_ok-put.ensures
    (adds_then r _ _ c.in_ok-put_parent.ensures
    (adds_then r _ _ c.in_ok-put-2.ensures c.put_mark.ensures))
