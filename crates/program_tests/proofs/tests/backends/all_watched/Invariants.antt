use Rattle.std.proofs.Common.{◌≡◌, vec_len}
use Rattle.program_tests.proofs.tests.backends.all_watched.Given as goal

abbrev pub invariant-loop-made : goal.invariant-loop-made
invariant-loop-made g l = vec_len l.backends ≡ l.made
