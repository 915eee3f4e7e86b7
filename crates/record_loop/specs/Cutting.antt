-- A session that has taken no bytes.
use Rattle.std.specs.Prelude.{◌≡◌, []}
use Rattle.record_lines.specs.Cutters.{StandsAfter}
use Rattle.record_loop.specs.declared.in_flight.InFlight.{InFlight}
use Rattle.record_loop.specs.declared.session.Session.{Session}

-- The session has these records in flight, and has taken no bytes.
pub record IsCutting (flight : InFlight) (session : Session) : Type 0 where
  pub flight_is : session.flight ≡ flight
  pub stands : StandsAfter session.cutter []
  pub taken : session.taken ≡ 0
