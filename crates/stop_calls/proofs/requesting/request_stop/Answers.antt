use Rattle.std.proofs.Common.{rules}
use Rattle.stop_calls.proofs.requesting.request_stop.Goals as goal

pub request_step-read-requires-clause-needs : goal.request_step-read-requires-clause-needs
request_step-read-requires-clause-needs g c κs within = search rules

pub returns-clause-requested : goal.returns-clause-requested
returns-clause-requested g c = search rules
