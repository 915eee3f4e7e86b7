-- Where a scan of a stop source stands, among the places of the table.
use Rattle.std.specs.Prelude.{◌≡◌, ℕ, ◌+◌, ◌*◌, ◌<◌, ◌≤◌, false, List, length, Some}
use Rattle.node_tree.specs.declared.node.TreeNode.{TreeNode}
use Rattle.life_rules.specs.declared.event.Name.{Name}
use Rattle.life_rules.specs.declared.event.SourceRef.{SourceRef}
use Rattle.table_rules.specs.declared.view.View.{View}
use Rattle.table_rules.specs.Named.{Each}
use Rattle.table_rules.specs.ShownViews.{scan_in}
use Rattle.table_steps.specs.ScanOrders.{hears}
use Rattle.stop_calls.specs.declared.scanning.Scan.{Scan}

-- a scan of the source that begins
abbrev pub first_scan : SourceRef → Scan
first_scan source = record { source = source; block = 0; node = 0 }

-- the number of the place from which the scan goes on
abbrev pub cursor : List TreeNode → Scan → ℕ
cursor tree scan = scan.block * length tree + scan.node

-- no place with a number from i on and below j hears the source
abbrev pub NoneBetween : List TreeNode → SourceRef → ℕ → ℕ → Type 0
NoneBetween tree source i j =
    (b n : ℕ) → n < length tree → i ≤ b * length tree + n → b * length tree + n < j →
    hears tree source b n ≡ false

-- the view makes this scan, and no place hears its source between where the view goes on and where
-- the scan does: no callback of the scan runs
pub record Stands {P E : Type 0} (tree : List TreeNode) (scan : Scan) (v : View P E) : Type 0 where
  pub within : scan.node ≤ length tree
  pub from : ℕ
  pub scans : scan_in v.scans scan.source ≡ Some from
  pub reached : from ≤ cursor tree scan
  pub between : NoneBetween tree scan.source from (cursor tree scan)

-- none of these places hears the source
abbrev pub NoneHears : List TreeNode → SourceRef → List Name → Type 0
NoneHears tree source = Each (λ y. hears tree source y.block y.node ≡ false)
