use Rattle.table_words.proofs.Spots.{apart, within}
use Rattle.table_words.proofs.layout.spots_are_apart.Goals as goal

pub returns-clause-within : goal.returns-clause-within
returns-clause-within c = within

pub returns-clause-apart : goal.returns-clause-apart
returns-clause-apart c = apart
