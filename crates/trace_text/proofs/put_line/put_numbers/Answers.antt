use Rattle.std.specs.Fmt.{decimal}
use Rattle.trace_text.proofs.Added.{adds_then, adds_apart}
use Rattle.trace_text.proofs.put_line.put_numbers.Goals as goal

pub returns : goal.returns
returns c =
    let r = c.put_number.result in
    adds_then r _ _ c.in_ok-put.ensures
    (adds_apart r (decimal c.args.nodes) _ _ c.in_ok-put_number_apart.ensures
    (adds_apart r (decimal c.args.blocks) _ _ c.in_ok-put_number_apart-2.ensures
    (adds_apart r (decimal c.args.hands) _ _ c.in_ok-put_number_apart-3.ensures
    (adds_then r _ _ c.in_ok-put_kind.ensures
    (adds_then r _ _ c.in_ok-put-2.ensures c.put_number.ensures)))))
