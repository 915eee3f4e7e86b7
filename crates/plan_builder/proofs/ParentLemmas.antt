-- Parents among the nodes of a builder with one more.
use Rattle.std.proofs.Common.{◌≡◌, ℕ, suc, ◌+◌, ◌-◌, ◌<◌, cond, List, length, Some, None, sym, ap, ◌∙◌, arith}
use Rattle.std.specs.Prelude.{nat_eq}
use Rattle.std.specs.Option.{option_or}
use Rattle.std.specs.List.{list_any}
use Rattle.plan_rules.specs.declared.node.Node.{Node}
use Rattle.plan_shape.specs.Children.{part_count, children_of}
use Rattle.plan_shape.specs.Least.{least}
use Rattle.plan_shape.specs.Parents.{is_child, parent_of}
use Rattle.plan_shape.specs.Added.{number_of, with_node}
use Rattle.plan_builder.proofs.AddedLemmas.{length-with_node, children_at-old, children_at-part, children_at-new}
use Rattle.plan_shape.proofs.LeastLemmas.{least-joined}

-- a node keeps its parent, and one that has none gets the new node where it is a child of it
pub parent_of-with_node : (nodes : List Node) (node : Node) (k : ℕ) →
    parent_of (with_node nodes node) k
    ≡ option_or (parent_of nodes k)
    (cond (list_any (nat_eq k) (children_of (number_of nodes node) node)) (Some (number_of nodes node)) None)
parent_of-with_node nodes node k =
    let number : ℕ = number_of nodes node in
    let whole : length (with_node nodes node) ≡ suc number = length-with_node nodes node ∙ omega arith in
    ap (least (is_child (with_node nodes node) k)) whole
    ∙ least-joined (is_child nodes k) (is_child (with_node nodes node) k) (length nodes) number (omega arith)
    (λ m l. ap (list_any (nat_eq k)) (sym (children_at-old nodes node m l)))
    (λ m from below.
    let i : ℕ = m - length nodes in
    let is : m ≡ length nodes + i = omega (arith, from) in
    let small : i < part_count node = omega (arith, from, below) in
    ap (is_child (with_node nodes node) k) is ∙ ap (list_any (nat_eq k)) (children_at-part nodes node i small))
    ∙ ap (λ cs. option_or (parent_of nodes k) (cond (list_any (nat_eq k) cs) (Some number) None)) (children_at-new nodes node)
