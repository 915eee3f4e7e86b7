-- A hand at rest, and a hand that goes on until it is.
use Rattle.std.specs.Prelude.{◌≡◌, [], Option, Some, None}
use Rattle.life_rules.specs.declared.event.Name.{Name}
use Rattle.plan_shape.specs.Blueprint.{Blueprint}
use Rattle.table_rules.specs.declared.view.View.{View}
use Rattle.table_rules.specs.declared.view.Held.{Held}
use Rattle.table_rules.specs.Named.{without}
use Rattle.table_steps.specs.Views.{Board}
use Rattle.table_steps.specs.Seats.{Seated, view_of}
use Rattle.home_items.specs.declared.entry.Entry.{Entry}
use Rattle.home_items.specs.declared.item.Item.{Item}
use Rattle.exec_recv.specs.Beginnings.{AllCanStart, OwesNoRoot}
use Rattle.exec_recv.specs.Steppable.{CanStep}

-- The view holds no node and no finished root, owes no start and no report, runs no callback and
-- makes no scan.
pub record IsAtRest {P E : Type 0} (v : View P E) : Type 0 where
  pub held : v.held ≡ []
  pub owed : v.owed ≡ []
  pub reported : v.reported ≡ []
  pub finished : v.finished ≡ []
  pub runs : v.runs ≡ []
  pub scans : v.scans ≡ []

-- Beside starts that it owes the hand is at rest. Each of them can begin.
pub record HasOnlyStarts (board : Board Blueprint) (m : Seated Item Entry) : Type 0 where
  pub held : (view_of m).held ≡ []
  pub reported : (view_of m).reported ≡ []
  pub finished : (view_of m).finished ≡ []
  pub runs : (view_of m).runs ≡ []
  pub scans : (view_of m).scans ≡ []
  pub starts : AllCanStart board m

-- So it is, and none of these starts is of a root.
pub record OwesOnly (board : Board Blueprint) (m : Seated Item Entry) : Type 0 where
  pub has : HasOnlyStarts board m
  pub inner : OwesNoRoot board m

-- The hand may step the node x, and has nothing besides but starts that it owes: each of them can
-- begin, and none is of a root.
pub record CanGoOn (board : Board Blueprint) (x : Name) (m : Seated Item Entry) : Type 0 where
  pub can : CanStep board x m
  pub alone : without (λ (e : Held Entry). e.name) (view_of m).held x ≡ []
  pub reported : (view_of m).reported ≡ []
  pub finished : (view_of m).finished ≡ []
  pub starts : AllCanStart board m
  pub inner : OwesNoRoot board m

-- With a node the hand may go on; with none it is at rest.
abbrev pub GoesOn : Board Blueprint → Option Name → Seated Item Entry → Type 0
GoesOn board (Some next) m = CanGoOn board next m
GoesOn board None m = IsAtRest (view_of m)
