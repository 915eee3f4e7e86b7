use Rattle.std.proofs.Common.{ap, ◌∙◌, rules}
use Rattle.std.specs.Prelude.{Some, None}
use Rattle.plan_rules.specs.declared.node.Node.{Node}
use Rattle.plan_rules.specs.declared.node.Node.TheVariants.{Schedule, StartsOn, ContinuesOn, Unstoppable, WhenAll, Bulk, Part, Delay, Ahead}
use Rattle.plan_shape.specs.Blueprint.{Blueprint}
use Rattle.table_steps.specs.Views.{Board}
use Rattle.exec_recv.specs.Sites.{plan_at, node_at}
use Rattle.exec_adapt.specs.Kinds.{IsFactoryNode, IsAdaptorNode}
use Rattle.exec_let.specs.Kinds.{IsLetNode}
use Rattle.node_stepper.proofs.Doings.{does-at, factory-does, adaptor-does, let-does}
use Rattle.node_stepper.proofs.Nodes.{node-some, node-none}
use Rattle.node_stepper.proofs.stepping.step_node.Goals as goal

pub node-requires : goal.node-requires
node-requires g c =
    node-some c.args.site.now c.args.name c.site.inside.plan.now (c.site.invariant ∙ ap (λ (b : Board Blueprint). plan_at b) c.site.view_is)
    c.size.result c.size.ensures.size c.if-name-size.false

pub returns-then-name-size-clause-does : goal.returns-then-name-size-clause-does
returns-then-name-size-clause-does g c =
    does-at c.args.site.now c.args.name c.step.result c.args.hand.now c.step.new.hand None
    (node-none c.args.site.now c.args.name c.site.inside.plan.now (c.site.invariant ∙ ap (λ (b : Board Blueprint). plan_at b) c.site.view_is)
    c.size.result c.size.ensures.size c.if-name-size.true)
    c.step.ensures.does

pub returns-in-Input-clause-does : goal.returns-in-Input-clause-does
returns-in-Input-clause-does g c =
    let s = c.step-in-Input in
    let kind : IsFactoryNode (node_at c.args.site.now c.args.name) = search rules in
    factory-does c.args.site.now c.args.name s.result c.args.hand.now s.new.hand (node_at c.args.site.now c.args.name) kind s.ensures.does

pub returns-in-JustStopped-clause-does : goal.returns-in-JustStopped-clause-does
returns-in-JustStopped-clause-does g c =
    let s = c.step-in-JustStopped in
    let kind : IsFactoryNode (node_at c.args.site.now c.args.name) = search rules in
    factory-does c.args.site.now c.args.name s.result c.args.hand.now s.new.hand (node_at c.args.site.now c.args.name) kind s.ensures.does

pub returns-in-Then-clause-does : goal.returns-in-Then-clause-does
returns-in-Then-clause-does g c =
    let s = c.step-in-Then in
    let kind : IsAdaptorNode (node_at c.args.site.now c.args.name) = search rules in
    adaptor-does c.args.site.now c.args.name s.result c.args.hand.now s.new.hand (node_at c.args.site.now c.args.name) kind s.ensures.does

pub returns-in-UponStopped-clause-does : goal.returns-in-UponStopped-clause-does
returns-in-UponStopped-clause-does g c =
    let s = c.step-in-UponStopped in
    let kind : IsAdaptorNode (node_at c.args.site.now c.args.name) = search rules in
    adaptor-does c.args.site.now c.args.name s.result c.args.hand.now s.new.hand (node_at c.args.site.now c.args.name) kind s.ensures.does

pub returns-in-StoppedAsOptional-clause-does : goal.returns-in-StoppedAsOptional-clause-does
returns-in-StoppedAsOptional-clause-does g c =
    let s = c.step-in-StoppedAsOptional in
    let kind : IsAdaptorNode (node_at c.args.site.now c.args.name) = search rules in
    adaptor-does c.args.site.now c.args.name s.result c.args.hand.now s.new.hand (node_at c.args.site.now c.args.name) kind s.ensures.does

pub returns-in-StoppedAsError-clause-does : goal.returns-in-StoppedAsError-clause-does
returns-in-StoppedAsError-clause-does g c =
    let s = c.step-in-StoppedAsError in
    let kind : IsAdaptorNode (node_at c.args.site.now c.args.name) = search rules in
    adaptor-does c.args.site.now c.args.name s.result c.args.hand.now s.new.hand (node_at c.args.site.now c.args.name) kind s.ensures.does

pub returns-in-LetValue-clause-does : goal.returns-in-LetValue-clause-does
returns-in-LetValue-clause-does g c =
    let s = c.step-in-LetValue in
    let kind : IsLetNode (node_at c.args.site.now c.args.name) = search rules in
    let-does c.args.site.now c.args.name s.result c.args.hand.now s.new.hand (node_at c.args.site.now c.args.name) kind s.ensures.does

pub returns-in-LetStopped-clause-does : goal.returns-in-LetStopped-clause-does
returns-in-LetStopped-clause-does g c =
    let s = c.step-in-LetStopped in
    let kind : IsLetNode (node_at c.args.site.now c.args.name) = search rules in
    let-does c.args.site.now c.args.name s.result c.args.hand.now s.new.hand (node_at c.args.site.now c.args.name) kind s.ensures.does

pub returns-in-Schedule-clause-does : goal.returns-in-Schedule-clause-does
returns-in-Schedule-clause-does g c =
    let s = c.step-in-Schedule in
    does-at c.args.site.now c.args.name s.result c.args.hand.now s.new.hand (Some (Schedule _))
    (c.node.ensures ∙ ap (λ (n : Node). Some n) c.in-Schedule.is) s.ensures.does

pub returns-in-StartsOn-clause-does : goal.returns-in-StartsOn-clause-does
returns-in-StartsOn-clause-does g c =
    let s = c.step-in-StartsOn in
    does-at c.args.site.now c.args.name s.result c.args.hand.now s.new.hand (Some (StartsOn _ _))
    (c.node.ensures ∙ ap (λ (n : Node). Some n) c.in-StartsOn.is) s.ensures.does

pub returns-in-ContinuesOn-clause-does : goal.returns-in-ContinuesOn-clause-does
returns-in-ContinuesOn-clause-does g c =
    let s = c.step-in-ContinuesOn in
    does-at c.args.site.now c.args.name s.result c.args.hand.now s.new.hand (Some (ContinuesOn _ _))
    (c.node.ensures ∙ ap (λ (n : Node). Some n) c.in-ContinuesOn.is) s.ensures.does

pub returns-in-Unstoppable-clause-does : goal.returns-in-Unstoppable-clause-does
returns-in-Unstoppable-clause-does g c =
    let s = c.step-in-Unstoppable in
    does-at c.args.site.now c.args.name s.result c.args.hand.now s.new.hand (Some (Unstoppable _))
    (c.node.ensures ∙ ap (λ (n : Node). Some n) c.in-Unstoppable.is) s.ensures.does

pub returns-in-WhenAll-clause-does : goal.returns-in-WhenAll-clause-does
returns-in-WhenAll-clause-does g c =
    let s = c.step-in-WhenAll in
    does-at c.args.site.now c.args.name s.result c.args.hand.now s.new.hand (Some (WhenAll _))
    (c.node.ensures ∙ ap (λ (n : Node). Some n) c.in-WhenAll.is) s.ensures.does

pub returns-in-Bulk-clause-does : goal.returns-in-Bulk-clause-does
returns-in-Bulk-clause-does g c =
    let s = c.step-in-Bulk in
    does-at c.args.site.now c.args.name s.result c.args.hand.now s.new.hand (Some (Bulk _ _))
    (c.node.ensures ∙ ap (λ (n : Node). Some n) c.in-Bulk.is) s.ensures.does

pub returns-in-Part-clause-does : goal.returns-in-Part-clause-does
returns-in-Part-clause-does g c =
    let s = c.step-in-Part in
    does-at c.args.site.now c.args.name s.result c.args.hand.now s.new.hand (Some (Part _ _))
    (c.node.ensures ∙ ap (λ (n : Node). Some n) c.in-Part.is) s.ensures.does

pub returns-in-Delay-clause-does : goal.returns-in-Delay-clause-does
returns-in-Delay-clause-does g c =
    let s = c.step-in-Delay in
    does-at c.args.site.now c.args.name s.result c.args.hand.now s.new.hand (Some (Delay _))
    (c.node.ensures ∙ ap (λ (n : Node). Some n) c.in-Delay.is) s.ensures.does
