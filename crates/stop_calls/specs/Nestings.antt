-- How a hand scans a stop source inside other scans: what a scan needs that is under way, and what
-- a callback that runs since a scan came to it.
use Rattle.std.specs.Prelude.{◌≡◌, ℕ, ◌-◌, ◌*◌, ◌<◌, ◌≤◌, List, [], ◌∷◌, length, Some}
use Rattle.node_tree.specs.declared.node.TreeNode.{TreeNode}
use Rattle.node_tree.specs.Tree.{IsTree, nearest}
use Rattle.life_rules.specs.declared.event.Name.{Name}
use Rattle.life_rules.specs.declared.event.SourceRef.{SourceRef}
use Rattle.life_rules.specs.declared.event.SourceRef.TheVariants.{Scope, Node}
use Rattle.life_rules.specs.States.{source_for}
use Rattle.table_rules.specs.declared.view.View.{View}
use Rattle.table_rules.specs.declared.view.Scanning.{Scanning}
use Rattle.table_rules.specs.Named.{Each}
use Rattle.table_steps.specs.Views.{Board}
use Rattle.table_steps.specs.Seats.{Seated, view_of}
use Rattle.table_steps.specs.Remembers.{running}
use Rattle.table_steps.specs.Sights.{IsSourceIn}
use Rattle.stop_calls.specs.declared.scanning.Scan.{Scan}
use Rattle.stop_calls.specs.Cursors.{cursor, Stands, NoneHears}

-- the source is the scope's, or that of a node with a greater number
abbrev pub IsAbove : ℕ → SourceRef → Type 0
IsAbove n Scope = Unit {0}
IsAbove n (Node y) = n < y.node

abbrev pub AreAbove : ℕ → List Scanning → Type 0
AreAbove n = Each (λ s. IsAbove n s.source)

-- the callback of x is registered on the source
abbrev pub Hears : List TreeNode → SourceRef → Name → Type 0
Hears tree source x = source_for x (nearest tree x.node) ≡ Some source

-- such scans may be under way while the source is scanned: none while the scope's is, and while a
-- node's is those of nodes above it and of the scope
abbrev pub AreOuter : SourceRef → List Scanning → Type 0
AreOuter Scope scans = scans ≡ []
AreOuter (Node y) scans = AreAbove y.node scans

-- and such callbacks may run, that a scan inside this one may begin: none, or those of nodes that
-- aren't below
abbrev pub AreAround : SourceRef → List Name → Type 0
AreAround Scope runs = runs ≡ []
AreAround (Node y) runs = Each (λ x. y.node ≤ x.node) runs

-- the view may begin a scan of the source
pub record MayScan {P E : Type 0} (v : View P E) (source : SourceRef) : Type 0 where
  pub outer : AreOuter source v.scans
  pub around : AreAround source v.runs

-- the view runs the callback of x, and may begin a scan of x's own source from inside it
pub record RunsInside {P E : Type 0} (v : View P E) (x : Name) : Type 0 where
  pub runs : 1 ≤ running v x
  pub may : MayScan v (Node x)

-- how deep the sources lie that a scan of this one may come to: each of them less deep
abbrev pub depth_of : List TreeNode → SourceRef → ℕ
depth_of tree Scope = length tree
depth_of tree (Node y) = y.node

-- a scan of the source that goes on from this number
abbrev pub scan_at : SourceRef → ℕ → Scanning
scan_at source next = record { source = source; next = next }

-- so many places are left of the scan
abbrev pub places_left : {O : Type 0} → Board O → Scan → ℕ
places_left board scan =
    length board.frame.tree * board.frame.layout.blocks - cursor board.frame.tree scan

-- fewer places are left of the scan
abbrev pub IsFewer : {O : Type 0} → Board O → Scan → Scan → Type 0
IsFewer board before after = places_left board after < places_left board before

module _ {P E O : Type 0} (board : Board O) (scan : Scan) (m : Seated P E) where
  -- the hand makes this scan, innermost, which stands where the next call needs it. The other scans
  -- are of nodes above or of the scope, and the hand runs no callback of the source
  pub record Scans : Type 0 where
    pub tree : IsTree board.frame.tree
    pub is_one : IsSourceIn board scan.source
    pub from : ℕ
    pub outer : List Scanning
    pub scans : (view_of m).scans ≡ scan_at scan.source from ∷ outer
    pub above : AreOuter scan.source outer
    pub stands : Stands board.frame.tree scan (view_of m)
    pub unrun : NoneHears board.frame.tree scan.source (view_of m).runs

  -- and no callback that it runs is of a node below the source's: from inside a due of this scan
  -- one of the due's own source may begin
  pub record Nests : Type 0 where
    pub makes : Scans
    pub around : AreAround scan.source (view_of m).runs
