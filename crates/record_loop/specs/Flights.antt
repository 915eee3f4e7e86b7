-- The records in flight.
use Rattle.std.specs.Prelude.{◌≡◌, ℕ, ◌+◌, true, false, [], length}
use Rattle.node_tree.specs.declared.scope_kind.ScopeKind.TheVariants.{Counting}
use Rattle.plan_rules.specs.declared.settings.Settings.{Settings}
use Rattle.plan_rules.specs.Exclusion.{has_stop_rule}
use Rattle.record_loop.specs.declared.in_flight.InFlight.{InFlight}
use Rattle.record_loop.specs.declared.printer.Form.{Form}
use Rattle.record_loop.specs.Printing.{Printed}
use Rattle.exec_io.specs.Views.{SinkView}
use Rattle.record_loop.specs.Works.{Work}

-- How many records were read: those that are written, and those in flight.
abbrev pub read_of : InFlight → ℕ
read_of flight = flight.printer.summary.lines + length flight.slots.items

-- No record was read.
pub record IsFresh (window : ℕ) (settings : Settings) (form : Form) (flight : InFlight)
    : Type 0 where
  pub slots : flight.slots.items ≡ []
  pub capacity : flight.slots.capacity ≡ window
  pub settings_are : flight.settings ≡ settings
  pub requested : flight.requested ≡ false
  pub printed : (start : SinkView) → Printed form start start flight.printer []

-- A stop is requested, and nothing else changes.
pub record Requested (old new : InFlight) : Type 0 where
  pub requested : new.requested ≡ true
  pub slots : new.slots ≡ old.slots
  pub printer : new.printer ≡ old.printer
  pub settings_are : new.settings ≡ old.settings

-- A stop may be requested, where a rule requests one.
abbrev pub MayAsk : Work → InFlight → Type 0
MayAsk work flight = has_stop_rule flight.settings ≡ true → work.plan.settings.scope ≡ Counting
