use Rattle.std.specs.Prelude.{All}
use Rattle.std.proofs.Common.{◌<◌, ◌++◌, ◌∷◌, [], List, sym, ap, ap₂, ◌∙◌, subst, rules, arith}
use Rattle.plan_kinds.specs.declared.sig.Sig.{Sig}
use Rattle.plan_kinds.specs.Shapes.{Shape}
use Rattle.plan_kinds.specs.Runs.{bodies_of}
use Rattle.plan_kinds.specs.Values.{body_arguments}
use Rattle.plan_kinds.specs.Signatures.{sig_of}
use Rattle.plan_kinds.specs.Reached.{Reaches}
use Rattle.sig_check.specs.Findings.{Finds}
use Rattle.sig_check.proofs.Walking.{children-run, bodies-run, children-before, bodies-before, finds-node, sigs-more, finds-more, own-known, behind-known, sig-found, finding-found}
use Rattle.sig_check.proofs.walk.+walk.Goals as goal

pub walk-walk_all-requires : goal.walk-walk_all-requires
walk-walk_all-requires t c =
    let nodes = c.args.plan.now.nodes in
    let input = c.args.plan.now.settings.input in
    let a = c.args.arguments.now in
    let listed = c.deref.ensures.value ∙ c.in_ok-children.ensures in
    let below = children-before nodes input c.args.node c.node-here.result.now c.node-here.ensures c.requires.plan.forest in
    let run = children-run nodes input c.args.node c.node-here.result.now c.node-here.ensures a c.requires.runs in (
      search rules,
      (
        c.requires.plan,
        (
          omega (arith, c.requires.node),
          (
            subst (All (λ k. k < c.args.node)) (sym listed) below,
            (subst (All (λ k. Reaches nodes input k a)) (sym listed) run, c.requires.right),
          ),
        ),
      ),
    )

pub walk-walk_all-requires-2 : goal.walk-walk_all-requires-2
walk-walk_all-requires-2 t c =
    let nodes = c.args.plan.now.nodes in
    let input = c.args.plan.now.settings.input in
    let a = c.args.arguments.now in
    let node = c.node-here.result.now in
    let listed = c.deref.ensures.value ∙ c.in_ok-children.ensures in
    let own = own-known (sig_of nodes) node a c.deref.result.now c.deref-2.result.now listed
    (c.deref-2.ensures.value ∙ c.in_ok-own.ensures.sigs) in
    let shape = c.body_arguments-below.ensures ∙ ap (body_arguments node) own in
    let below = bodies-before nodes input c.args.node node c.node-here.ensures c.requires.plan.forest in
    let run = bodies-run nodes input c.args.node node c.node-here.ensures a c.requires.runs in
    let runs = subst (λ b. All (λ k. Reaches nodes input k b) (bodies_of node)) (sym shape) run in (
      search rules,
      (
        c.requires.plan,
        (
          omega (arith, c.requires.node),
          (
            subst (All (λ k. k < c.args.node)) (sym c.bodies_of.ensures) below,
            (
              subst (All (λ k. Reaches nodes input k c.body_arguments-below.result)) (sym c.bodies_of.ensures) runs,
              c.in_ok-own.ensures.finds.right,
            ),
          ),
        ),
      ),
    )

pub walk-returns-clause-sig : goal.walk-returns-clause-sig
walk-returns-clause-sig t c =
    let plan = c.args.plan.now in
    let below = sig_of plan.nodes in
    let a = c.args.arguments.now in
    let node = c.node-here.result.now in
    let children = c.deref.result.now in
    let listed = c.deref.ensures.value ∙ c.in_ok-children.ensures in
    let known = own-known below node a children c.deref-2.result.now listed
    (c.deref-2.ensures.value ∙ c.in_ok-own.ensures.sigs) in
    let own = own-known below node a children c.deref-3.result.now listed
    (c.deref-3.ensures.value ∙ c.in_ok-own.ensures.sigs) in
    let behind = behind-known below node a c.deref-2.result.now c.body_arguments-below.result
    c.bodies_of.result.now c.deref-4.result.now known c.body_arguments-below.ensures c.bodies_of.ensures
    (c.deref-4.ensures.value ∙ c.in_ok-behind.ensures.sigs) in
    let found = c.finding_of-finding.result.sig in
    let make : Shape → Sig = λ v. record { value = v; may_error = found.may_error; may_stop = found.may_stop } in
    ap make c.copy.ensures ∙ c.finding_of-finding.ensures.sig
    ∙ sig-found plan c.requires.plan c.args.node node c.node-here.ensures a c.deref-3.result.now
    c.deref-4.result.now own behind

pub walk-returns-clause-finds : goal.walk-returns-clause-finds
walk-returns-clause-finds t c =
    let plan = c.args.plan.now in
    let below = sig_of plan.nodes in
    let input = plan.settings.input in
    let a = c.args.arguments.now in
    let node = c.node-here.result.now in
    let children = c.deref.result.now in
    let listed = c.deref.ensures.value ∙ c.in_ok-children.ensures in
    let known = own-known below node a children c.deref-2.result.now listed
    (c.deref-2.ensures.value ∙ c.in_ok-own.ensures.sigs) in
    let own = own-known below node a children c.deref-3.result.now listed
    (c.deref-3.ensures.value ∙ c.in_ok-own.ensures.sigs) in
    let behind = behind-known below node a c.deref-2.result.now c.body_arguments-below.result
    c.bodies_of.result.now c.deref-4.result.now known c.body_arguments-below.ensures c.bodies_of.ensures
    (c.deref-4.ensures.value ∙ c.in_ok-behind.ensures.sigs) in
    let old = c.args.findings.now.items in
    let middle = c.walk_all.new.findings.items in
    let new = c.walk_all-2.new.findings.items in
    finds-node plan.nodes input c.args.node node c.node-here.ensures c.requires.plan.forest a c.requires.runs
    old middle new c.finding_of-finding.result
    (subst (λ l. Finds plan.nodes input old l middle) listed c.in_ok-own.ensures.finds)
    (subst (λ l. Finds plan.nodes input middle l new) c.bodies_of.ensures c.in_ok-behind.ensures.finds)
    (finding-found plan c.requires.plan c.args.node node c.node-here.ensures a c.deref-3.result.now
    c.deref-4.result.now own behind c.finding_of-finding.result c.finding_of-finding.ensures.sig
    c.finding_of-finding.ensures.matches)

pub walk_all-loop-node-preserved : goal.walk_all-loop-node-preserved
walk_all-loop-node-preserved t c =
    let nodes = c.args.plan.now.nodes in
    let input = c.args.plan.now.settings.input in
    let a = c.args.arguments.now in
    record {
      sigs =
          c.in_ok-push.ensures.items
          ∙ ap₂ (λ (l : List Sig) (s : Sig). l ++ s ∷ []) c.loop-node.invariant.sigs c.in_ok-sig.ensures.sig
          ∙ sym (sigs-more (sig_of nodes) a c.args.nodes.now c.loop-node.node-index c.loop-node-test.true);
      finds =
          finds-more nodes input c.args.findings.now.items c.loop-node.findings.items c.walk.new.findings.items
          c.args.nodes.now c.loop-node.node-index c.loop-node-test.true c.loop-node.invariant.finds
          c.in_ok-sig.ensures.finds;
    }
