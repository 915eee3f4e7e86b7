-- What an arming tells ([stopcallback.inplace.cons]).
use Rattle.std.specs.Prelude.{◌≡◌, ℕ, ◌<◌, Bool, true, false, List, length, Option, Some}
use Rattle.node_tree.specs.declared.node.TreeNode.{TreeNode}
use Rattle.life_rules.specs.declared.event.Name.{Name}
use Rattle.life_rules.specs.declared.event.SourceRef.{SourceRef}
use Rattle.life_rules.specs.declared.event.SourceRef.TheVariants.{Scope, Node}
use Rattle.node_tree.specs.Tree.{nearest, has_source}
use Rattle.life_rules.specs.States.{source_for}
use Rattle.atomic_table.specs.declared.shared.Seat.{Seat}
use Rattle.table_rules.specs.declared.view.View.{View}
use Rattle.table_steps.specs.Views.{Board, knows}
use Rattle.table_steps.specs.Callbacks.{IsArmed}
use Rattle.table_rules.specs.ShownViews.{has_source_ref}
use Rattle.table_steps.specs.Sights.{AgreesWithTold, IsLookedAt}
use Rattle.stop_calls.specs.declared.arming.Armed.{Armed}
use Rattle.stop_calls.specs.declared.arming.Armed.TheVariants.{Quiet, Asked}

-- the source is the scope's, or that of a node of the tree, in this block
abbrev pub IsSourceAt : List TreeNode → ℕ → SourceRef → Type 0
IsSourceAt tree block Scope = Unit {0}
IsSourceAt tree block (Node y) = (y.block ≡ block) × (y.node < length tree)
    × (has_source tree y.node ≡ true)

abbrev pub is_asked : Armed → Bool
is_asked Quiet = false
is_asked Asked = true

-- the callback was registered, and then the source that the node hears was read: the answer is what
-- it said
pub record IsArmedSo {P E O : Type 0} (board : Board O) (x : Name) (answer : Armed)
    (old new : Seat (Option P) (View P E)) : Type 0 where
  pub middle : Seat (Option P) (View P E)
  pub armed : IsArmed board x old middle
  pub source : SourceRef
  pub nearest_is : source_for x (nearest board.frame.tree x.node) ≡ Some source
  pub looked : IsLookedAt board source (Some x) (is_asked answer) middle new
  pub stands : has_source_ref (knows old).seen source ≡ true → is_asked answer ≡ true
  pub told : AgreesWithTold board.frame.tree (knows old) source (is_asked answer)
