use Rattle.std.proofs.Common.{rules}
use Rattle.table_words.proofs.halves.stamp.Goals as goal

pub returns : goal.returns
returns c = search rules
