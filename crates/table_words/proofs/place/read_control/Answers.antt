use Rattle.std.proofs.Common.{rules}
use Rattle.table_words.proofs.place.read_control.Goals as goal

pub returns-in_default : goal.returns-in_default
returns-in_default c = search rules
