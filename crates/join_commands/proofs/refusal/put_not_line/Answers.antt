use Rattle.std.proofs.Common.{◌≡◌, codes, decimal, ◌∙◌}
use Rattle.join_commands.proofs.NoteLaws.{two}
use Rattle.join_commands.proofs.refusal.put_not_line.Goals as goal

pub returns : goal.returns
returns g c =
    let digits : c.as_bytes-digits.result.now ≡ decimal c.args.number = c.as_bytes-digits.ensures.value ∙ c.format.ensures.text in
    two (codes ".out: line ") (codes " isn't that of record ") (codes "\n") c.as_bytes-digits.result.now (decimal c.args.number) c.as_bytes-digits.result.now (decimal c.args.number) digits digits c.put_pieces.ensures
