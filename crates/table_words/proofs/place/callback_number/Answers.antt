use Rattle.std.proofs.Common.{rules}
use Rattle.table_words.proofs.place.callback_number.Goals as goal

pub returns-clause-value : goal.returns-clause-value
returns-clause-value c = search rules

pub returns-clause-phase : goal.returns-clause-phase
returns-clause-phase c = search rules
