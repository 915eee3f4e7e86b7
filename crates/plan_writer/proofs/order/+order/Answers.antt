use Rattle.std.specs.List.{range_with_len}
use Rattle.std.proofs.Common.{◌-◌, ◌<◌, [], ◌∷◌, ◌++◌, length, ap, ◌∙◌, arith}
use Rattle.plan_shape.specs.Children.{part_count}
use Rattle.plan_writer.proofs.Shapes.{bound-written, child-written, listed-written_at, pair-written}
use Rattle.plan_writer.proofs.CountLemmas.{order-by_children, parts-fit}
use Rattle.plan_writer.proofs.order.+order.Goals as goal

pub push_children-push_order-requires : goal.push_children-push_order-requires
push_children-push_order-requires t c =
    let here = child-written c.args.plan.now c.requires.plan c.args.at c.in-Child.child c.args.node.now
    c.requires.node_is c.in-Child.ensures in
    (omega (arith, here.1, c.decreases), (c.requires.plan, here.0))

pub push_children-push_order-requires-in-ChildAndBodies : goal.push_children-push_order-requires-in-ChildAndBodies
push_children-push_order-requires-in-ChildAndBodies t c =
    let here = bound-written c.args.plan.now c.requires.plan c.args.at c.in-ChildAndBodies.child c.args.node.now
    c.requires.node_is c.in-ChildAndBodies.ensures in
    (omega (arith, here.1, c.decreases), (c.requires.plan, here.0))

pub push_children-push_order-requires-in-Pair : goal.push_children-push_order-requires-in-Pair
push_children-push_order-requires-in-Pair t c =
    let here = (pair-written c.args.plan.now c.requires.plan c.args.at c.in-Pair.first c.in-Pair.second c.args.node.now
    c.requires.node_is c.in-Pair.ensures).0 in
    (omega (arith, here.1, c.decreases), (c.requires.plan, here.0))

pub push_children-push_order-requires-in-Pair-2 : goal.push_children-push_order-requires-in-Pair-2
push_children-push_order-requires-in-Pair-2 t c =
    let here = (pair-written c.args.plan.now c.requires.plan c.args.at c.in-Pair.first c.in-Pair.second c.args.node.now
    c.requires.node_is c.in-Pair.ensures).1 in
    (omega (arith, here.1, c.decreases), (c.requires.plan, here.0))

pub push_listed-push_order-requires : goal.push_listed-push_order-requires
push_listed-push_order-requires t c =
    let within : c.loop-child.child-index < length c.listed-child-items.result.now = omega arith in
    let here = listed-written_at c.args.plan.now c.requires.plan c.args.at c.loop-child.child-index c.args.node.now
    c.listed-child-items.result.now c.requires.node_is c.loop-child.invariant.same within in
    (omega (arith, here.1, c.decreases), (c.requires.plan, here.0))

pub push_order-push_parts-requires : goal.push_order-push_parts-requires
push_order-push_parts-requires t c =
    parts-fit c.args.plan.now.nodes c.requires.plan.forest c.args.at c.node-node.result.now c.node-node.ensures

pub push_order-returns : goal.push_order-returns
push_order-returns t c =
    let plan = c.args.plan.now in
    let at = c.args.at in
    let node = c.node-node.result.now in
    let parts = range_with_len (at - part_count node) (part_count node) in
    c.in_ok-push.ensures.items
    ∙ ap (λ ks. ks ++ at ∷ []) (c.in_ok-push_parts.ensures
    ∙ ap (λ ks. ks ++ parts) c.in_ok-push_children.ensures)
    ∙ order-by_children plan.nodes c.requires.plan.forest at node c.node-node.ensures c.args.order.now.items
