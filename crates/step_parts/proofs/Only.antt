-- Which nodes of a plan have one child, or none, in its tree.
use Rattle.std.specs.Prelude.{Contains, slice_get}
use Rattle.std.specs.Option.{option_to_list}
use Rattle.std.proofs.Common.{◌≡◌, ℕ, true, false, Option, Some, sym, subst}
use Rattle.life_rules.specs.declared.event.Name.{Name}
use Rattle.node_tree.specs.Tree.{is_child}
use Rattle.plan_rules.specs.declared.node.Node.{Node}
use Rattle.plan_shape.specs.Blueprint.{Blueprint}
use Rattle.plan_shape.specs.Children.{children_of}
use Rattle.plan_shape.specs.PlanTree.{spawns, tree_of}
use Rattle.plan_kinds.proofs.Trees.{trees-show}
use Rattle.table_steps.specs.Views.{Board}
use Rattle.home_items.proofs.KindsBelow.{in-option, option-in}
use Rattle.exec_recv.specs.Over.{IsOver}
use Rattle.step_parts.specs.Takes.{IsOnlyChild}

-- a node that names this child alone, or none, and spawns none
pub only-named : (board : Board Blueprint) (plan : Blueprint) (x : Name) (node : Node) (child : Option ℕ) → IsOver board plan → slice_get plan.nodes x.node ≡ Some node →
    children_of x.node node ≡ option_to_list child → ((k : ℕ) → spawns k node ≡ false) → IsOnlyChild board x child
only-named board plan x node child over at named spawns_none =
    let shows = (trees-show plan over.is_plan).each x.node node at in
    let tree : tree_of plan.nodes ≡ board.frame.tree = sym over.tree in
    record {
      is = λ n names.
          subst (λ t. is_child t x.node n ≡ true) tree
          ((shows.children n).1 (subst (λ l. Contains l n) (sym named) (option-in child n names), spawns_none n));
      only = λ n below.
          in-option child n
          (subst (λ l. Contains l n) named ((shows.children n).0 (subst (λ t. is_child t x.node n ≡ true) (sym tree) below)).0);
    }
