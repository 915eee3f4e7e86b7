use Rattle.part_lines.proofs.OutcomeLaws.{outcomes_are_part, lines_are_text, counts_agree}
use Rattle.part_lines.proofs.law.outcomes_are_parts.Goals as goal

pub returns : goal.returns
returns c = record { part = outcomes_are_part; text = lines_are_text; counts = counts_agree }
