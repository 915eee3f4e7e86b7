-- What a hand needs to end a callback's run, also by a removal from inside it, and what that does
-- to it.
use Rattle.std.specs.Prelude.{◌≡◌, ℕ, ◌+◌, ◌*◌, ◌≤◌, if◌then◌else◌, List, [], ◌∷◌, length, Option, Some, None}
use Rattle.std.specs.Option.{option_map_or}
use Rattle.node_tree.specs.declared.node.TreeNode.{TreeNode}
use Rattle.life_rules.specs.declared.words.CallbackPhase.TheVariants.{Running, Ran, Removed}
use Rattle.life_rules.specs.declared.event.Name.{Name}
use Rattle.life_rules.specs.declared.event.SourceRef.{SourceRef}
use Rattle.life_rules.specs.declared.event.SourceRef.TheVariants.{Node}
use Rattle.node_tree.specs.Tree.{nearest}
use Rattle.life_rules.specs.Views.{same_source}
use Rattle.life_rules.specs.States.{source_for}
use Rattle.atomic_table.specs.declared.shared.Seat.{Seat}
use Rattle.table_rules.specs.declared.view.View.{View}
use Rattle.table_rules.specs.declared.view.Held.{Held}
use Rattle.table_rules.specs.declared.view.Scanning.{Scanning}
use Rattle.table_rules.specs.Named.{count_by, without}
use Rattle.table_rules.specs.ShownViews.{scan_in}
use Rattle.table_steps.specs.Views.{Board}
use Rattle.table_steps.specs.Readings.{notes_phase}
use Rattle.table_steps.specs.Callbacks.{LeftCallback}
use Rattle.table_steps.specs.Slots.{held_at}

-- the hand runs the node's callback, and makes no scan of the node's own source
pub record CanEndRun {P E : Type 0} (v : View P E) (x : Name) : Type 0 where
  pub runs : 1 ≤ count_by (λ y. y) v.runs x
  pub unscanned : scan_in v.scans (Node x) ≡ None

-- and it holds the node
pub record CanWithdrawOwn {P E : Type 0} (v : View P E) (x : Name) : Type 0 where
  pub run : CanEndRun v x
  pub held : Held E
  pub holds : held_at v x ≡ Some held

-- the scan of the source goes on from this number
abbrev pub passes_to : SourceRef → ℕ → List Scanning → List Scanning
passes_to source next [] = []
passes_to source next (scan ∷ scans) =
    if same_source scan.source source then record { source = scan.source; next = next } ∷ scans
    else scan ∷ passes_to source next scans

-- the number of a place in the order of scans
abbrev pub number_of : List TreeNode → Name → ℕ
number_of tree x = x.block * length tree + x.node

-- the hand no longer runs the callback, and its scan has passed the place
abbrev pub ends_run : {P E : Type 0} → List TreeNode → Name → View P E → View P E
ends_run tree x v =
    record v {
      runs = without (λ y. y) v.runs x;
      scans = option_map_or (λ source. passes_to source (number_of tree x + 1) v.scans)
          (source_for x (nearest tree x.node)) v.scans;
    }

-- and has noted that the callback was removed
abbrev pub removes_own : {P E : Type 0} → List TreeNode → Name → View P E → View P E
removes_own tree x v = ends_run tree x (notes_phase x Removed v)

abbrev pub IsRunEnded : {P E O : Type 0} → Board O → Name → Seat (Option P) (View P E) →
    Seat (Option P) (View P E) → Type 0
IsRunEnded board x old new = LeftCallback board x Running Ran (ends_run board.frame.tree x) old new

abbrev pub IsOwnWithdrawn : {P E O : Type 0} → Board O → Name → Seat (Option P) (View P E) →
    Seat (Option P) (View P E) → Type 0
IsOwnWithdrawn board x old new = LeftCallback board x Running Removed
    (removes_own board.frame.tree x) old new
