use Rattle.std.proofs.Common.{codes, decimal, ◌∙◌}
use Rattle.join_commands.proofs.NoteLaws.{two}
use Rattle.join_commands.proofs.refusal.put_records.Goals as goal

pub returns : goal.returns
returns g c =
    two (codes ".out: there are ") (codes " records, and ") (codes " by the sorts of lines\n") c.as_bytes.result.now (decimal c.args.told) c.as_bytes-2.result.now (decimal c.args.found)
    (c.as_bytes.ensures.value ∙ c.format.ensures.text) (c.as_bytes-2.ensures.value ∙ c.format-2.ensures.text) c.put_pieces.ensures
