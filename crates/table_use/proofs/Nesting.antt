-- What a scan leaves of what the hand holds.
use Rattle.std.proofs.Common.{ℕ, refl, ◌∙◌}
use Rattle.std.specs.Prelude.{Option}
use Rattle.atomic_table.specs.declared.shared.Seat.{Seat}
use Rattle.table_rules.specs.declared.view.View.{View}
use Rattle.table_steps.specs.Views.{Board}
use Rattle.table_steps.specs.Seats.{Seated}
use Rattle.stop_calls.specs.Asides.{Passed, ScansOn}
use Rattle.stop_calls.specs.Removals.{IsOver}
use Rattle.stop_calls.proofs.Keeping.{comes-here, found-passed}
use Rattle.stop_calls.proofs.Passing.{due-on}
pub use Rattle.stop_calls.specs.Nestings.{scan_at}
pub use Rattle.stop_calls.proofs.ScanLists.{first-found, first-drops}
pub use Rattle.stop_calls.proofs.Nesting.{HasRequested, HasCome, DidInside, EndsRun, HasGoneThrough, made-runs, made, found-heard, found-runs, found-scans, at-once, found-ends, ended-runs, over-runs, through-runs}
unfoldable pub use Rattle.stop_calls.proofs.Nesting.{begun, ended-scans, over-scans, through-scans}
use Rattle.table_use.specs.declared.cargo.Item.{Item}
use Rattle.table_use.specs.declared.cargo.Entry.{Entry}
use Rattle.table_use.specs.Uses.{KeepsHoldings}

-- calls that follow each other
pub keeps-on : (m m1 m2 : Seated Item Entry) → KeepsHoldings m m1 → KeepsHoldings m1 m2 → KeepsHoldings m m2
keeps-on m m1 m2 first second =
    record { held = second.held ∙ first.held; slots = second.slots ∙ first.slots; number = second.number ∙ first.number }

-- a call that changes runs and scans alone
pub passed-keeps : (m m1 : Seated Item Entry) → Passed m m1 → KeepsHoldings m m1
passed-keeps m m1 passed = record { held = passed.held; slots = passed.aside.homes; number = passed.aside.number }

module _ {board : Board ℕ} (come : HasCome Item Entry board) where
  -- one that found a place
  pub found-keeps : KeepsHoldings come.old.me come.new.me
  found-keeps =
      passed-keeps come.old.me come.new.me (found-passed board come.old come.new come.before come.after come.place come.found)

  -- a callback that does nothing ran, and its run ended
  pub ran-on : (end : Seat (Option Item) (View Item Entry)) → IsOver board come.place come.new end → ScansOn come.old.me end.me come.before.source
  ran-on end over = due-on come come.new (comes-here come.new.me come.new.me refl) end over
