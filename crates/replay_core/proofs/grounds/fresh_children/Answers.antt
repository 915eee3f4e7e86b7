use Rattle.std.proofs.Common.{◌≡◌, length, sym, ap, ◌∙◌, arith}
use Rattle.exec_life.specs.StateLists.{machine}
use Rattle.life_rules.specs.LifeSteps.{may_be_awaited}
use Rattle.life_rules.specs.States.{size, name_at}
use Rattle.replay_core.specs.Candidates.{fresh_children}
use Rattle.replay_core.proofs.Kept.{passed_yes, passed_no, passed_all, if_ok}
use Rattle.replay_core.proofs.grounds.fresh_children.Goals as goal

pub loop-node-preserved-then-not-is_fresh_child : goal.loop-node-preserved-then-not-is_fresh_child
loop-node-preserved-then-not-is_fresh_child c =
    let s = machine c.args.state.now in
    let nodes : c.size-node-end.result ≡ size s = c.size-node-end.ensures.size ∙ ap length c.tree.ensures in
    passed_no (may_be_awaited s (name_at s c.args.place)) (size s) c.loop-node.node c.loop-node.children.items (omega (arith, nodes))
    (sym c.is_fresh_child.ensures ∙ c.if-not-is_fresh_child.true) c.loop-node.invariant

pub loop-node-preserved : goal.loop-node-preserved
loop-node-preserved c =
    let s = machine c.args.state.now in
    let nodes : c.size-node-end.result ≡ size s = c.size-node-end.ensures.size ∙ ap length c.tree.ensures in
    passed_yes (may_be_awaited s (name_at s c.args.place)) (size s) c.loop-node.node c.loop-node.children.items _ (omega (arith, nodes))
    (sym c.is_fresh_child.ensures ∙ c.if-not-is_fresh_child.false) c.loop-node.invariant c.in_ok-push.ensures.items

pub returns : goal.returns
returns c =
    let s = machine c.args.state.now in
    let nodes : c.size-node-end.result ≡ size s = c.size-node-end.ensures.size ∙ ap length c.tree.ensures in
    let all = passed_all (may_be_awaited s (name_at s c.args.place)) (size s) c.loop-node.node (omega (arith, nodes)) in
    if_ok c.from_slice.result (λ list. list ≡ c.deref.result.now) (λ list. list ≡ fresh_children s c.args.place)
    (λ list is. is ∙ c.deref.ensures.value ∙ c.loop-node.invariant ∙ all) c.from_slice.ensures
