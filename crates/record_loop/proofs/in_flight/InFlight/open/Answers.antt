use Rattle.std.proofs.Common.{rules}
use Rattle.record_loop.proofs.in_flight.InFlight.open.Goals as goal

pub returns : goal.returns
returns c = search rules
