use Rattle.std.proofs.Common.{rules}
use Rattle.table_words.proofs.block.read_block.Goals as goal

pub returns : goal.returns
returns c = search rules
