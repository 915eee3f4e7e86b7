use Rattle.std.proofs.Common.{rules}
use Rattle.stop_calls.proofs.dues.Due.finish.Goals as goal

pub end_run_step-requires-clause-needs : goal.end_run_step-requires-clause-needs
end_run_step-requires-clause-needs g c κs within = search rules

pub returns-then-runs-clause-over : goal.returns-then-runs-clause-over
returns-then-runs-clause-over g c = search rules
