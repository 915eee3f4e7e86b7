use Rattle.std.proofs.Common.{rules}
use Rattle.table_words.proofs.law.scope_words_lie_so.Goals as goal

pub returns-clause-source : goal.returns-clause-source
returns-clause-source c = search rules
