-- A session that has read nothing.
use Rattle.std.specs.Prelude.{ℕ}
use Rattle.plan_rules.specs.declared.settings.Settings.{Settings}
use Rattle.record_loop.specs.Cutting.{IsCutting}
use Rattle.record_loop.specs.declared.in_flight.InFlight.{InFlight}
use Rattle.record_loop.specs.declared.printer.Form.{Form}
use Rattle.record_loop.specs.declared.session.Session.{Session}
use Rattle.record_loop.specs.Flights.{IsFresh}

-- The session has no records in flight, and has taken no bytes.
pub record IsReady (window : ℕ) (settings : Settings) (form : Form) (session : Session)
    : Type 0 where
  pub flight : InFlight
  pub fresh : IsFresh window settings form flight
  pub cutting : IsCutting flight session
