use Rattle.std.proofs.Common.{rules}
use Rattle.table_words.proofs.layout.Layout.source.Goals as goal

pub returns-clause-value : goal.returns-clause-value
returns-clause-value c = search rules
