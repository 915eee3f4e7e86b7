use Rattle.std.proofs.Common.{◌∙◌}
use Rattle.join_commands.proofs.SummaryLaws.{counted}
use Rattle.join_commands.proofs.reading.push_count.Goals as goal

pub returns : goal.returns
returns c =
    counted c.extend_from_slice-2.result _ _ _ _ _ _ c.in_ok-extend_from_slice.ensures.items c.extend_from_slice-2.ensures.items (c.as_bytes.ensures.value ∙ c.format.ensures.text)
