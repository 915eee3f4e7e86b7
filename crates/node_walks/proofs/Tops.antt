-- The root of a block, in a table over a plan: the receiver node.
use Rattle.std.proofs.Common.{◌≡◌, ℕ, zero, suc, ◌+◌, ◌<◌, true, List, length, arith, refl, ap, ◌∙◌}
use Rattle.std.specs.Prelude.{Option, Some, None}
use Rattle.std.specs.Option.{option_map_or}
use Rattle.std.proofs.lemmas.Bool.{both_ways, eq-eqb}
use Rattle.life_rules.specs.declared.event.Name.{Name}
use Rattle.life_rules.specs.declared.event.SourceRef.TheVariants.{Scope}
use Rattle.life_rules.specs.States.{source_for}
use Rattle.life_kept.proofs.Trees.{parent-child, root-orphan}
use Rattle.node_tree.specs.declared.node.TreeNode.{TreeNode}
use Rattle.node_tree.specs.Tree.{IsTree, TheScope, parent_of, is_root, is_child, given_by, source_above, nearest}
use Rattle.plan_shape.specs.Blueprint.{Blueprint}
use Rattle.plan_kinds.proofs.Trees.{trees-show}
use Rattle.table_steps.specs.Views.{Board, IsPlaceIn}
use Rattle.table_steps.specs.Claims.{root_name}
use Rattle.op_slot.specs.Tends.{HasPlaces}
use Rattle.exec_recv.specs.Over.{IsOver}
use Rattle.exec_recv.proofs.Places.{over-places}

-- a root has no parent
no-parent : (tree : List TreeNode) → IsTree tree → (n : ℕ) → n < length tree → is_root tree n ≡ true → (o : Option ℕ) →
    parent_of tree n ≡ o → parent_of tree n ≡ None
no-parent tree is n below root None e = e
no-parent tree is n below root (Some p) e =
    absurd (both_ways (is_child tree p n) (root-orphan tree is p n below root) (parent-child tree p n e))

-- so it hears the scope's source
scope-above : (tree : List TreeNode) (steps n : ℕ) → parent_of tree n ≡ None → source_above tree steps n ≡ TheScope
unfolding source_above
scope-above tree zero n e = refl
scope-above tree (suc steps) n e = ap (λ o. option_map_or (λ p. given_by tree p (source_above tree steps p)) o TheScope) e

module _ (board : Board Blueprint) (plan : Blueprint) (over : IsOver board plan) (block generation : ℕ) where
  abbrev x : Name
  x = root_name board block generation

  pub root-within : x.node < length board.frame.tree
  root-within = let some = over.is_tree.some in omega (arith, some)

  pub root-is : is_root board.frame.tree x.node ≡ true
  root-is =
      eq-eqb (x.node + 1) (length board.frame.tree) (let some = over.is_tree.some in omega (arith, some))

  pub root-hears : source_for x (nearest board.frame.tree x.node) ≡ Some Scope
  root-hears =
      ap (source_for x)
      (scope-above board.frame.tree (length board.frame.tree) x.node
      (no-parent board.frame.tree over.is_tree x.node root-within root-is (parent_of board.frame.tree x.node) refl))

  pub root-place : block < board.frame.layout.blocks → IsPlaceIn board x
  root-place within =
      record { block = within; node = let wide = over.nodes in let below = root-within in omega (arith, wide, below) }

  pub root-places : block < board.frame.layout.blocks → HasPlaces board.frame x
  root-places within = over-places board plan x over (root-place within)

  -- its number is that after the plan's root
  pub root-number : x.node ≡ length plan.nodes
  root-number =
      let size = (trees-show plan over.is_plan).size in
      let tree : length board.frame.tree ≡ length plan.nodes + 1 = ap length over.tree ∙ size in
      omega (arith, tree)
