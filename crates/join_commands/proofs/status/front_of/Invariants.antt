use Rattle.std.proofs.Common.{◌≤◌}
use Rattle.join_commands.specs.declared.front.TheConstants.{FRONT}
use Rattle.join_commands.proofs.status.front_of.Given as goal

abbrev pub invariant-loop-byte : goal.invariant-loop-byte
invariant-loop-byte l = l.count ≤ FRONT
