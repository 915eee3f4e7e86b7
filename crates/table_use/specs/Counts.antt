-- How many callbacks of a scan ran.
use Rattle.std.specs.Prelude.{◌≡◌, ℕ, zero, suc, Option}
use Rattle.life_rules.specs.declared.event.Name.{Name}
use Rattle.atomic_table.specs.declared.shared.Seat.{Seat}
use Rattle.table_rules.specs.declared.view.View.{View}
use Rattle.table_steps.specs.Views.{Board}
use Rattle.table_steps.specs.ScanSeals.{IsScanSealed}
use Rattle.stop_calls.specs.declared.scanning.Scan.{Scan}
use Rattle.stop_calls.specs.Removals.{IsOver}
use Rattle.stop_calls.specs.Walks.{IsFound, IsThrough}
use Rattle.table_use.specs.declared.cargo.Entry.{Entry}
use Rattle.table_use.specs.declared.cargo.Item.{Item}

-- a hand of this use
abbrev pub Worker : Type 0
Worker = Seat (Option Item) (View Item Entry)

module _ (board : Board ℕ) where
  -- the scan came to this place, and its run ended
  pub record RunsOne (before after : Scan) (place : Name) (old new : Worker) : Type 0 where
    pub running : Worker
    pub found : IsFound board before old running after place
    pub over : IsOver board place running new

  -- so many of the scan ran, one after the other
  abbrev pub RunsSome : ℕ → Scan → Scan → Worker → Worker → Type 0
  RunsSome zero before after old new = (after ≡ before) × (new ≡ old)
  RunsSome (suc count) before after old new =
      (scan : Scan) × (middle : Worker) × RunsSome count before scan old middle
      × ((place : Name) × RunsOne scan after place middle new)

  -- so many of the scan ran, the scan came to no further one, and was sealed
  pub record RunsOut (count : ℕ) (scan : Scan) (old new : Worker) : Type 0 where
    pub last : Scan
    pub left : Worker
    pub runs : RunsSome count scan last old left
    pub after : Scan
    pub end : Worker
    pub through : IsThrough board last left end after
    pub sealed : IsScanSealed board after.source end new
