use Rattle.line_summary.proofs.CountLaws.{Summarizes-more}
use Rattle.line_summary.proofs.summary.Summary.count.Goals as goal

pub returns-clause-counts : goal.returns-clause-counts
returns-clause-counts c = λ outcomes counted. Summarizes-more counted c.add.ensures
