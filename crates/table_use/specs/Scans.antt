-- How a hand of this use scans a stop source, inside other scans.
use Rattle.std.specs.Prelude.{◌≡◌, ℕ, List, [], ◌∷◌}
use Rattle.life_rules.specs.declared.event.Name.{Name}
use Rattle.life_rules.specs.declared.event.SourceRef.{SourceRef}
use Rattle.life_rules.specs.declared.event.SourceRef.TheVariants.{Node}
use Rattle.life_rules.specs.Views.{beside}
use Rattle.table_rules.specs.declared.view.Scanning.{Scanning}
use Rattle.table_steps.specs.Views.{Board}
use Rattle.table_steps.specs.Seats.{Seated, view_of}
use Rattle.table_steps.specs.ScanSeals.{drops}
use Rattle.stop_calls.specs.declared.scanning.Scan.{Scan}
pub use Rattle.stop_calls.specs.Nestings.{AreAbove, AreOuter, Hears, IsFewer, Scans, scan_at}
use Rattle.table_use.specs.declared.cargo.Item.{Item}
use Rattle.table_use.specs.declared.cargo.Entry.{Entry}

-- the hand's scans but for that of this source
abbrev pub other_scans : SourceRef → Seated Item Entry → List Scanning
other_scans source m = drops source (view_of m).scans

-- it makes those that it made
abbrev pub KeepsOthers : SourceRef → Seated Item Entry → Seated Item Entry → Type 0
KeepsOthers source m m' = other_scans source m' ≡ other_scans source m

-- the hand runs the callback of this place alone, and makes a scan of the root's source alone
pub record IsInside (place : Name) (m : Seated Item Entry) : Type 0 where
  pub runs : (view_of m).runs ≡ place ∷ []
  pub from : ℕ
  pub scans : (view_of m).scans ≡ scan_at (Node (beside place 3)) from ∷ []

-- the hand runs nothing, and makes this scan of the root's source alone
pub record IsOuter (board : Board ℕ) (root : Name) (scan : Scan)
    (m : Seated Item Entry) : Type 0 where
  pub makes : Scans board scan m
  pub source : scan.source ≡ Node root
  pub runs : (view_of m).runs ≡ []
  pub alone : makes.outer ≡ []
