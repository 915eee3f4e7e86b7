use Rattle.std.proofs.Common.{rules}
use Rattle.stop_calls.proofs.scanning.passes_block.Goals as goal

pub returns-then-skip_step-clause-met : goal.returns-then-skip_step-clause-met
returns-then-skip_step-clause-met g c = search rules
