-- A child that failed below a node: the hand may mark the node's source as failed.
use Rattle.std.proofs.Common.{◌≡◌, ℕ, ◌+◌, true, false, List, [], ◌∷◌, length, refl, sym, ap, ◌∙◌, subst}
use Rattle.std.specs.Prelude.{Option, Some, None}
use Rattle.std.specs.Option.{option_map_or}
use Rattle.std.proofs.lemmas.Bool.{both_ways, eq-eqb}
use Rattle.life_rules.specs.declared.event.Name.{Name}
use Rattle.life_rules.specs.Views.{beside}
use Rattle.life_kept.proofs.Trees.{child-one}
use Rattle.node_tree.specs.declared.node.TreeNode.{TreeNode}
use Rattle.node_tree.specs.Tree.{is_child, is_root, parent_of}
use Rattle.plan_rules.specs.Allowed.{IsFailure}
use Rattle.plan_shape.specs.Blueprint.{Blueprint, IsPlan}
use Rattle.plan_shape.specs.PlanTree.{tree_of}
use Rattle.plan_kinds.proofs.Trees.{trees-show}
use Rattle.table_rules.specs.declared.view.Reported.{Reported}
use Rattle.table_rules.specs.Named.{find_by}
use Rattle.table_steps.specs.Views.{Board}
use Rattle.table_steps.specs.Seats.{Seated}
use Rattle.table_steps.specs.Readings.{above_it}
use Rattle.table_steps.specs.Requests.{OwesFailed}
use Rattle.op_slot.specs.Tends.{OwesReport}
use Rattle.home_items.specs.contracts.item.ItemCargo.TheImpl.{ghosts}
use Rattle.home_items.specs.declared.entry.Entry.{Entry}
use Rattle.home_items.specs.declared.item.Item.{Item}
use Rattle.home_items.specs.Contents.{Done}
use Rattle.home_items.specs.Entries.{plan_of, node_of, node_above}
use Rattle.home_items.specs.Fits.{FitsHome}
use Rattle.home_items.specs.Parcels.{Delivery}
use Rattle.home_items.specs.Starts.{IsStart}
use Rattle.home_items.proofs.Reading.{fits-failed}
use Rattle.home_items.proofs.Standing.{stands-below}
use Rattle.exec_recv.specs.Over.{IsOver}

-- beside its parent a node has its own name
above-back : (tree : List TreeNode) (x : Name) → beside (above_it tree x) x.node ≡ x
above-back tree x = of (parent_of tree x.node)
  where
    of : (parent : Option ℕ) → beside (option_map_or (λ p. beside x p) parent x) x.node ≡ x
    of None = refl
    of (Some p) = refl

module _ (board : Board Blueprint) (plan : Blueprint) (over : IsOver board plan) (x : Name) (inner : is_root board.frame.tree x.node ≡ false) where
  size-is : length board.frame.tree ≡ length plan.nodes + 1
  size-is = ap length over.tree ∙ (trees-show plan over.is_plan).size

  -- the start of a node that isn't the receiver's goes on with that of its parent
  pub start-above : (start : List Entry) → IsStart start → node_of start ≡ x.node → plan_of start ≡ plan →
      is_child board.frame.tree (above_it board.frame.tree x).node x.node ≡ true →
      node_above start ≡ Some (above_it board.frame.tree x).node
  start-above [] is node of below = absurd is
  start-above (e ∷ []) is node of below =
      let last : x.node + 1 ≡ length board.frame.tree =
      ap (λ n. n + 1) (sym node ∙ is.node ∙ ap (λ (p : Blueprint). length p.nodes) of) ∙ sym size-is in
      absurd (both_ways (is_root board.frame.tree x.node) inner (eq-eqb (x.node + 1) (length board.frame.tree) last))
  start-above (e ∷ p ∷ above) is node of below =
      let same : p.plan ≡ plan = sym is.0.under.plan ∙ of in
      let child = stands-below e p (subst (λ (q : Blueprint). IsPlan q) (sym same) over.is_plan) above is in
      ap (λ n. Some n)
      (child-one board.frame.tree p.node (above_it board.frame.tree x).node x.node
      (subst (λ n. is_child board.frame.tree p.node n ≡ true) node
      (subst (λ t. is_child t p.node e.node ≡ true) (sym (over.tree ∙ ap (λ (q : Blueprint). tree_of q.nodes) (sym same))) child)) below)

  pub owes-failed : (m : Seated Item Entry) (entry : Reported Item Entry) (parcel : Delivery) → OwesReport x entry m → entry.item ≡ Done parcel →
      IsStart parcel.start → node_of parcel.start ≡ x.node → plan_of parcel.start ≡ plan →
      is_child board.frame.tree (above_it board.frame.tree x).node x.node ≡ true → IsFailure parcel.completion →
      OwesFailed ghosts board.frame.tree m.0 (above_it board.frame.tree x)
  owes-failed m entry parcel owes item is node of below failed =
      let parent = above_it board.frame.tree x in
      record {
        child = x.node;
        is_below = below;
        entry = entry;
        owes = ap (find_by (λ (e : Reported Item Entry). e.name) m.0.reported) (above-back board.frame.tree x) ∙ owes;
        failed = subst (λ (i : Item). FitsHome i parent.node true) (sym item)
            (fits-failed parcel parent.node (start-above parcel.start is node of below) failed);
      }
