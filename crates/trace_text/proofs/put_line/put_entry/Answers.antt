use Rattle.trace_text.proofs.Added.{adds_then}
use Rattle.trace_text.proofs.put_line.put_entry.Goals as goal

pub returns : goal.returns
returns c = adds_then c.put.result _ _ c.in_ok-put_entry_text.ensures c.put.ensures
