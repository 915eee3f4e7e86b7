use Rattle.outcome_lines.proofs.PieceLemmas.{Puts-gathered}
use Rattle.outcome_lines.proofs.line.put_any_line.Goals as goal

pub returns-in-Ok : goal.returns-in-Ok
returns-in-Ok g c = Puts-gathered c.empty-piece.ensures c.in-Ok.ensures c.as_slice.ensures c.put_bytes.ensures
