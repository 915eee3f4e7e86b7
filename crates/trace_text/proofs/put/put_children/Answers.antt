use Rattle.std.proofs.Common.{arith}
use Rattle.trace_text.proofs.Added.{adds_same, adds_join, children_text-first}
use Rattle.trace_text.proofs.put.put_children.Goals as goal

pub returns-in_ok-put_later-in-len1-up : goal.returns-in_ok-put_later-in-len1-up
returns-in_ok-put_later-in-len1-up c =
    adds_same (children_text-first c.args.children.now (omega arith))
    (adds_join c.in_ok-put_number-in-len1-up.ensures c.in_ok-put_later-in-len1-up.ensures)
