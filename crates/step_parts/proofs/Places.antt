-- Where a node of a plan stands in the table over it, and whose starts it has.
use Rattle.std.specs.Prelude.{slice_get}
use Rattle.std.specs.Option.{option_map_or}
use Rattle.std.proofs.Common.{◌≡◌, ℕ, ◌+◌, true, false, List, length, Option, Some, refl, sym, ap, ◌∙◌, subst, arith}
use Rattle.std.proofs.lemmas.Bool.{eqb-true, cond-false}
use Rattle.std.proofs.lemmas.Option.{slice_get_within}
use Rattle.common_lemmas.proofs.Bool.{either}
use Rattle.life_rules.specs.declared.event.Name.{Name}
use Rattle.life_rules.specs.declared.event.SourceRef.{SourceRef}
use Rattle.life_rules.specs.States.{source_for}
use Rattle.life_rules.specs.Views.{beside}
use Rattle.life_kept.proofs.Trees.{child-parent}
use Rattle.node_tree.specs.Tree.{IsTree, Nearest, TheScope, TheNode, Nowhere, nearest, is_root, is_child, is_unstoppable, has_source}
use Rattle.node_tree.proofs.Walk.{nearest-some}
use Rattle.plan_rules.specs.declared.node.Node.{Node}
use Rattle.plan_shape.specs.Blueprint.{Blueprint}
use Rattle.plan_shape.specs.PlanTree.{is_when_all}
use Rattle.plan_kinds.specs.Runnable.{IsRunnable}
use Rattle.plan_kinds.specs.TreeLaws.{ShowsNode}
use Rattle.plan_kinds.proofs.Trees.{trees-show}
use Rattle.table_rules.specs.ShownViews.{has_source_ref}
use Rattle.table_steps.specs.Views.{Board}
use Rattle.table_steps.specs.Seats.{Seated}
use Rattle.table_steps.specs.Slots.{has_seen}
use Rattle.home_items.specs.declared.entry.Entry.{Entry}
use Rattle.home_items.specs.declared.item.Item.{Item}
use Rattle.home_items.specs.Entries.{plan_of, node_of}
use Rattle.home_items.specs.Starts.{IsStart}
use Rattle.exec_recv.specs.Over.{IsOver}
use Rattle.start_laws.specs.Nodes.{IsStartOf}
use Rattle.step_parts.specs.Midway.{IsMidway}

module _ (board : Board Blueprint) (plan : Blueprint) (x : Name) (node : Node) (over : IsOver board plan)
    (at : slice_get plan.nodes x.node ≡ Some node) where
  -- the tree shows the node as the plan has it
  pub node-shown : ShowsNode board.frame.tree x.node node
  node-shown = subst (λ t. ShowsNode t x.node node) (sym over.tree) ((trees-show plan over.is_plan).each x.node node at)

  pub source-none : is_when_all node ≡ false → has_source board.frame.tree x.node ≡ false
  source-none plain = node-shown.source ∙ plain

  -- it isn't the receiver node
  pub inner-is : is_root board.frame.tree x.node ≡ false
  inner-is =
      let size : length board.frame.tree ≡ length plan.nodes + 1 = ap length over.tree ∙ (trees-show plan over.is_plan).size in
      let within = slice_get_within plan.nodes x.node node at in
      either (is_root board.frame.tree x.node)
      (λ t. let last : x.node + 1 ≡ length board.frame.tree = eqb-true (x.node + 1) (length board.frame.tree) t in
      absurd (omega (arith, size, within, last)))
      (λ f. f)

  -- the start of a node that is held is one of this node
  pub start-of : (start : List Entry) (inside : Item) (least : ℕ) (kid : ℕ → Option Item) (m : Seated Item Entry) → IsRunnable plan →
      IsMidway board x start inside least kid m → IsStart start → IsStartOf start node
  start-of start inside least kid m runnable lies is =
      let same : plan_of start ≡ plan = lies.key ∙ over.over in
      record {
        start_is = is;
        runnable = subst IsRunnable (sym same) runnable;
        node_is = ap (λ (b : Blueprint). slice_get b.nodes (node_of start)) same
            ∙ ap (slice_get plan.nodes) lies.node ∙ at;
      }

-- a child of a node that has no source, and isn't unstoppable, hears what the node does
pub seen-below : (board : Board Blueprint) (x : Name) (n : ℕ) (m : Seated Item Entry) → IsTree board.frame.tree →
    has_source board.frame.tree x.node ≡ false → is_unstoppable board.frame.tree x.node ≡ false →
    is_child board.frame.tree x.node n ≡ true → has_seen board.frame.tree m.0 (beside x n) ≡ has_seen board.frame.tree m.0 x
seen-below board x n m tree source stoppable child =
    let above : nearest board.frame.tree n ≡ nearest board.frame.tree x.node =
    nearest-some board.frame.tree n x.node tree (child-parent board.frame.tree x.node n child)
    ∙ cond-false (has_source board.frame.tree x.node) (TheNode x.node) _ source
    ∙ cond-false (is_unstoppable board.frame.tree x.node) Nowhere (nearest board.frame.tree x.node) stoppable in
    ap (λ (o : Option SourceRef). option_map_or (has_source_ref m.0.seen) o false)
    (ap (source_for (beside x n)) above ∙ same-source (nearest board.frame.tree x.node))
  where
    same-source : (near : Nearest) → source_for (beside x n) near ≡ source_for x near
    same-source TheScope = refl
    same-source (TheNode p) = refl
    same-source Nowhere = refl
