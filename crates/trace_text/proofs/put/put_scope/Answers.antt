use Rattle.trace_text.specs.Texts.{bit_text}
use Rattle.trace_text.proofs.Added.{adds_apart}
use Rattle.trace_text.proofs.put.put_scope.Goals as goal

pub returns : goal.returns
returns c =
    let r = c.put_number.result in
    adds_apart r (bit_text c.args.word.used) _ _ c.in_ok-put_bit.ensures
    (adds_apart r (bit_text c.args.word.closed) _ _ c.in_ok-put_bit-2.ensures
    (adds_apart r (bit_text c.args.word.joining) _ _ c.in_ok-put_bit-3.ensures
    (adds_apart r (bit_text c.args.word.joined) _ _ c.in_ok-put_bit-4.ensures c.put_number.ensures)))
