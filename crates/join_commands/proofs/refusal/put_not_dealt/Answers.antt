use Rattle.std.proofs.Common.{codes, decimal, ◌∙◌}
use Rattle.join_commands.proofs.NoteLaws.{two}
use Rattle.join_commands.proofs.refusal.put_not_dealt.Goals as goal

pub returns : goal.returns
returns g c =
    two (codes ".out: line ") (codes " wasn't dealt in turn: ") (codes ".out has ended before\n") c.as_bytes.result.now (decimal c.args.number) c.as_bytes-2.result.now c.args.ended.now
    (c.as_bytes.ensures.value ∙ c.format.ensures.text) c.as_bytes-2.ensures.value c.put_pieces.ensures
