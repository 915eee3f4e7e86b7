use Rattle.std.proofs.Common.{◌≡◌, ℕ, ◌+◌, List, length, arith, sym, ap, ◌∙◌, subst}
use Rattle.std.specs.Prelude.{Some}
use Rattle.std.proofs.lemmas.Option.{same_Some}
use Rattle.plan_rules.specs.declared.node.Node.{Node as PlanNode}
use Rattle.run_loop.specs.declared.delay_node.DelayNode.{DelayNode}
use Rattle.run_loop.specs.DelayNodes.{AreDelaysBelow}
use Rattle.run_loop.proofs.DelayLists.{delays-other, delays-more}
use Rattle.run_loop.proofs.listing.delays_of.Goals as goal
use Rattle.run_loop.proofs.listing.delays_of.Goals.{in-Delay+in_ok-push-in-Delay, in_default}

pub loop-node-preserved : goal.loop-node-preserved
loop-node-preserved c =
    let nodes = c.args.plan.now.nodes in
    let node = c.loop-node.node in
    elim c.match-node.branch [
      | in-Delay+in_ok-push-in-Delay w ↦
          subst (λ (list : List DelayNode). AreDelaysBelow nodes (node + 1) list)
          (sym (ap (λ list. list.items) w.list-is ∙ w.in_ok-push-in-Delay.ensures.items))
          (delays-more nodes node _ c.loop-node.list.items c.loop-node.invariant
          (c.node.ensures ∙ ap (λ (n : PlanNode). Some n) w.in-Delay.is))
      | in_default w ↦
          subst (λ (list : List DelayNode). AreDelaysBelow nodes (node + 1) list) (sym (ap (λ list. list.items) w.list-is))
          (delays-other nodes node c.loop-node.list.items c.loop-node.invariant
          (λ turns at. w.in_default.not-Delay turns (same_Some _ _ (sym c.node.ensures ∙ at))))
    ]

pub returns : goal.returns
returns c =
    let nodes = c.args.plan.now.nodes in
    let size = c.size-node-end.ensures.size in
    let end = c.loop-node.auto.node-end in
    let past = c.loop-node-test.false in
    let all : c.loop-node.node ≡ length nodes = omega (arith, size, end, past) in
    subst (λ (count : ℕ). AreDelaysBelow nodes count c.loop-node.list.items) all c.loop-node.invariant
