use Rattle.std.proofs.Common.{◌<◌, List, [], ◌∷◌, ◌++◌, All, length, map, take, sym, ap, ◌∙◌, arith}
use Rattle.std.proofs.lemmas.List.{map_push, map_more, take_all}
use Rattle.std.proofs.lemmas.List.Elements.{All-more, All-weaker}
use Rattle.serde_json.specs.Data.{Data, array, object}
use Rattle.serde_json.specs.View.{view, items_of}
use Rattle.serde_json.proofs.Views.{view-Array, view-Object}
use Rattle.plan_rules.specs.Children.{named_by}
use Rattle.plan_writer.specs.Nodes.{below_of, listed, node_data, with_children}
use Rattle.plan_writer.specs.ReadBack.{IsReadBack}
use Rattle.plan_writer.proofs.Shapes.{IsBelow, bound-written, child-written, listed-written_at, named-written, node_data-at, pair-written}
use Rattle.plan_writer.proofs.WalksBack.{node-reads}
use Rattle.plan_writer.proofs.node.+write.Goals as goal

pub list_value-node_value-requires : goal.list_value-node_value-requires
list_value-node_value-requires t c =
    let within : c.loop-child.child-index < length c.listed-child-items.result.now = omega arith in
    let here = listed-written_at c.args.plan.now c.requires.plan c.args.at c.loop-child.child-index c.args.node.now
    c.listed-child-items.result.now c.requires.node_is c.loop-child.invariant.same within in
    (omega (arith, here.1, c.decreases), (c.requires.plan, here.0))

pub list_value-loop-child-preserved : goal.list_value-loop-child-preserved
list_value-loop-child-preserved t c =
    let plan = c.args.plan.now in
    let children = c.listed-child-items.result.now in
    let index = c.loop-child.child-index in
    let within : index < length children = omega arith in
    let written = c.in_ok-node_value.field-0 in
    record {
      same = c.loop-child.invariant.same;
      back = All-more (IsReadBack plan) children index 0 within c.loop-child.invariant.back c.in_ok-node_value.ensures.back;
      so_far = ap (map view) c.in_ok-push.ensures.items
          ∙ map_push view c.loop-child.values.items written
          ∙ ap (λ (ds : List Data). ds ++ view written ∷ []) c.loop-child.invariant.so_far
          ∙ ap (λ (d : Data). map (node_data plan.nodes) (take index children) ++ d ∷ []) c.in_ok-node_value.ensures.value
          ∙ sym (map_more (node_data plan.nodes) children index 0 within);
    }

pub list_value-returns-clause-value : goal.list_value-returns-clause-value
list_value-returns-clause-value t c =
    let children = c.listed-child-items.result.now in
    let all = take_all c.loop-child.child-index children (omega arith) in
    view-Array c.loop-child.values
    ∙ ap (λ (ds : List Data). array (items_of ds)) (c.loop-child.invariant.so_far
    ∙ ap (map (node_data c.args.plan.now.nodes)) (all ∙ c.loop-child.invariant.same))

pub node_value-returns-clause-value : goal.node_value-returns-clause-value
node_value-returns-clause-value t c =
    let plan = c.args.plan.now in
    let node = c.node-node.result.now in
    let less : All (λ k. k < c.args.at) (named_by node) =
    All-weaker (IsBelow plan.nodes c.args.at) (λ k. k < c.args.at) (λ k below. below.1) (named_by node)
    (named-written plan c.requires.plan c.args.at node c.node-node.ensures) in
    view-Object c.in_ok-with_children.field-0
    ∙ ap object (c.in_ok-with_children.ensures.value
    ∙ ap (with_children (node_data plan.nodes) (below_of node) (listed node)) c.in_ok-members.ensures.value)
    ∙ sym (node_data-at plan.nodes c.args.at node c.node-node.ensures less)

pub node_value-returns-clause-back : goal.node_value-returns-clause-back
node_value-returns-clause-back t c =
    node-reads c.args.plan.now c.requires.plan c.args.at c.node-node.result.now c.node-node.ensures
    c.requires.written c.in_ok-members.ensures.held c.in_ok-with_children.ensures.back

pub with_children-node_value-requires : goal.with_children-node_value-requires
with_children-node_value-requires t c =
    let here = child-written c.args.plan.now c.requires.plan c.args.at c.in-Child.child c.args.node.now
    c.requires.node_is c.in-Child.ensures in
    (omega (arith, here.1, c.decreases), (c.requires.plan, here.0))

pub with_children-node_value-requires-in-ChildAndBodies : goal.with_children-node_value-requires-in-ChildAndBodies
with_children-node_value-requires-in-ChildAndBodies t c =
    let here = bound-written c.args.plan.now c.requires.plan c.args.at c.in-ChildAndBodies.child c.args.node.now
    c.requires.node_is c.in-ChildAndBodies.ensures in
    (omega (arith, here.1, c.decreases), (c.requires.plan, here.0))

pub with_children-node_value-requires-in-Pair : goal.with_children-node_value-requires-in-Pair
with_children-node_value-requires-in-Pair t c =
    let here = (pair-written c.args.plan.now c.requires.plan c.args.at c.in-Pair.first c.in-Pair.second c.args.node.now
    c.requires.node_is c.in-Pair.ensures).0 in
    (omega (arith, here.1, c.decreases), (c.requires.plan, here.0))

pub with_children-node_value-requires-in-Pair-2 : goal.with_children-node_value-requires-in-Pair-2
with_children-node_value-requires-in-Pair-2 t c =
    let here = (pair-written c.args.plan.now c.requires.plan c.args.at c.in-Pair.first c.in-Pair.second c.args.node.now
    c.requires.node_is c.in-Pair.ensures).1 in
    (omega (arith, here.1, c.decreases), (c.requires.plan, here.0))
