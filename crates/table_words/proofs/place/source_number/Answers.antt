use Rattle.std.proofs.Common.{rules}
use Rattle.table_words.proofs.place.source_number.Goals as goal

pub returns-clause-value : goal.returns-clause-value
returns-clause-value c = search rules

pub returns-clause-bits : goal.returns-clause-bits
returns-clause-bits c = search rules
