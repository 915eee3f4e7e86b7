use Rattle.std.proofs.Common.{rules}
use Rattle.table_words.proofs.scope.scope_number.Goals as goal

pub returns-clause-value : goal.returns-clause-value
returns-clause-value c = search rules

pub returns-clause-reads : goal.returns-clause-reads
returns-clause-reads c = search rules
