-- Only a `when_all` has a stop source of its own.
use Rattle.std.proofs.Common.{◌≡◌, ℕ, true, ap, ◌∙◌}
use Rattle.std.specs.Prelude.{slice_get, Some}
use Rattle.node_tree.specs.declared.node_list.NodeList.{NodeList}
use Rattle.node_tree.specs.Tree.{has_source}
use Rattle.plan_rules.specs.declared.node.Node.TheVariants.{WhenAll}
use Rattle.plan_shape.specs.Blueprint.{Blueprint}
use Rattle.plan_kinds.proofs.Trees.{trees-show}
use Rattle.table_steps.specs.Views.{Board}
use Rattle.exec_recv.specs.Over.{IsOver}

pub all-source : (board : Board Blueprint) (plan : Blueprint) → IsOver board plan → (n : ℕ) (children : NodeList) →
    slice_get plan.nodes n ≡ Some (WhenAll children) → has_source board.frame.tree n ≡ true
all-source board plan over n children at =
    ap (λ tree. has_source tree n) over.tree ∙ ((trees-show plan over.is_plan).each n (WhenAll children) at).source
