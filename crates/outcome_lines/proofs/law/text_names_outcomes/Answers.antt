use Rattle.outcome_lines.proofs.OneToOneLemmas.{text_names}
use Rattle.outcome_lines.proofs.law.text_names_outcomes.Goals as goal

pub returns : goal.returns
returns c = text_names
