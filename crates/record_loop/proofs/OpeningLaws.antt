-- How a run begins.
use Rattle.std.proofs.Common.{◌≡◌, ℕ, [], refl, subst}
use Rattle.plan_rules.specs.declared.settings.Settings.{Settings}
use Rattle.plan_shape.specs.Blueprint.{Blueprint}
use Rattle.line_rules.specs.PlanTerms.{MayRun}
use Rattle.record_loop.specs.Beginnings.{IsReady}
use Rattle.record_loop.specs.declared.in_flight.InFlight.{InFlight}
use Rattle.record_loop.specs.declared.printer.Form.{Form}
use Rattle.record_loop.specs.declared.session.Session.{Session}
use Rattle.record_loop.specs.Flights.{IsFresh}
use Rattle.record_loop.specs.Reading.{on, HasTaken}
use Rattle.exec_io.specs.Views.{SinkView}
use Rattle.record_loop.specs.Standing.{opened_by, at, StandsAt}
use Rattle.record_loop.specs.Works.{Work, IsIdle}
use Rattle.record_loop.proofs.StandingLaws.{Standing-fresh}
use Rattle.record_loop.proofs.ReadingLaws.{TakenAt-nil}

-- no record was read, and no stop requested
pub fresh-stands : (Wants : Blueprint → Type 0) (window : ℕ) (settings : Settings) (form : Form) (work : Work) (sink : SinkView) (flight : InFlight) → IsFresh window settings form flight → settings ≡ work.plan.settings → IsIdle work → MayRun settings
    → StandsAt Wants (opened_by work window form sink) [] (at work sink flight)
fresh-stands Wants window settings form work sink flight fresh is idle may_run =
    Standing-fresh Wants (opened_by work window form sink) work flight
    (subst (λ (s : Settings). IsFresh window s form flight) is fresh) idle refl refl (subst MayRun is may_run)

-- no byte was taken
pub ready-taken : (Wants : Blueprint → Type 0) (window : ℕ) (settings : Settings) (form : Form) (work : Work) (sink : SinkView) (session : Session) → IsReady window settings form session → settings ≡ work.plan.settings → IsIdle work → MayRun settings
    → HasTaken Wants (opened_by work window form sink) [] (on work sink session)
ready-taken Wants window settings form work sink session ready is idle may_run =
    TakenAt-nil work sink ready.flight session ready.cutting (fresh-stands Wants window settings form work sink ready.flight ready.fresh is idle may_run)
