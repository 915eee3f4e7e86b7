use Rattle.std.proofs.Common.{◌≡◌, None, Err, sym, ap, subst, ◌∙◌}
use Rattle.node_tree.specs.Tree.{IsFirstFault}
use Rattle.node_tree.specs.declared.tree.TreeFault.TheVariants.{Shape}
use Rattle.plan_shape.specs.Forest.{IsForest}
use Rattle.plan_shape.specs.Finish.{finish_fault}
use Rattle.plan_builder.proofs.FinishLemmas.{finishable, plan_is, no_fault}
use Rattle.plan_builder.proofs.builder.PlanBuilder.finish.Goals as goal

pub new-requires-clause-plan : goal.new-requires-clause-plan
new-requires-clause-plan c =
    let nodes = c.self.inside.nodes.items in
    let none : finish_fault nodes c.args.root c.args.settings ≡ None =
    ap (λ ns. finish_fault ns c.args.root c.args.settings) c.self.view_is ∙ sym c.finish_fault.ensures ∙ c.in_default.is in
    plan_is nodes c.args.root c.args.settings c.self.invariant.forest c.requires
    (finishable nodes c.args.root c.args.settings none)

pub unreachable-requires : goal.unreachable-requires
unreachable-requires c =
    let n = c.in-Err-Shape.field-0-0 in
    let answered : c.open.result ≡ Err (Shape n) = c.in-Err-Shape.is ∙ ap (λ f. Err f) c.in-Err-Shape.field-0-is in
    let broken : IsFirstFault c.in_ok-nodes.nodes.items n = (c.open.ensures.shape n).0 answered in
    no_fault c.args.self n (subst IsForest c.self.view_is c.self.invariant.forest)
    (subst (λ nodes. IsFirstFault nodes n) c.in_ok-nodes.ensures broken)
