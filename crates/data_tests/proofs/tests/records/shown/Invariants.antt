use Rattle.std.proofs.Common.{length}
use Rattle.data_tests.proofs.tests.records.shown.Given as goal

abbrev pub decreases-lines : goal.decreases-lines
decreases-lines l = length l.left
