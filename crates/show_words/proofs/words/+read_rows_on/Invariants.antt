use Rattle.std.proofs.Common.{length}
use Rattle.show_words.proofs.words.+read_rows_on.Given as goal

abbrev pub decreases-read_rows_on : goal.decreases-read_rows_on
decreases-read_rows_on l = length l.words.now
