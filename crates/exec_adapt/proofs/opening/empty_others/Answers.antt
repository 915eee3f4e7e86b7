use Rattle.std.proofs.Common.{◌≡◌, ◌+◌, ◌-◌, ℕ, length, Some, sym, ap, ◌∙◌, subst, arith}
use Rattle.std.specs.Prelude.{slice_get}
use Rattle.plan_shape.specs.Blueprint.{Blueprint}
use Rattle.exec_recv.specs.Seats.{HandSeat}
use Rattle.exec_recv.specs.Sites.{plan_at}
use Rattle.exec_adapt.specs.Tops.{EmptiesTops}
use Rattle.exec_adapt.proofs.Emptied.{spawned-child, root-below, empties-root, empties-passed, empties-more, empties-open}
use Rattle.exec_adapt.proofs.opening.empty_others.Goals.{in-Some, in-None}
use Rattle.exec_adapt.proofs.opening.empty_others.Goals as goal

pub take_child-requires-clause-child : goal.take_child-requires-clause-child
take_child-requires-clause-child g c =
    let root : c.root_of.result ≡ length (plan_at c.args.site.now).nodes - 1 =
    c.root_of.ensures ∙ ap (λ (b : Blueprint). length b.nodes - 1) (c.site.invariant ∙ ap plan_at c.site.view_is) in
    root-below _ _ _ _ _ c.requires.opened.is c.requires.root c.root_of.result root

pub take_child-requires-clause-opened : goal.take_child-requires-clause-opened
take_child-requires-clause-opened g c = c.requires.opened

pub loop-number-init : goal.loop-number-init
loop-number-init g c =
    let root : c.root_of.result ≡ length (plan_at c.args.site.now).nodes - 1 =
    c.root_of.ensures ∙ ap (λ (b : Blueprint). length b.nodes - 1) (c.site.invariant ∙ ap plan_at c.site.view_is) in
    empties-root _ _ c.root_of.result root _ _ _ c.take_child.ensures

pub take_child-requires-in-Some-clause-child : goal.take_child-requires-in-Some-clause-child
take_child-requires-in-Some-clause-child g c =
    let at : slice_get (plan_at c.args.site.now).nodes c.loop-number.number ≡ Some c.node.result.now =
    ap (λ (b : Blueprint). slice_get b.nodes c.loop-number.number) (sym (c.site.invariant ∙ ap plan_at c.site.view_is)) ∙ c.node.ensures in
    spawned-child _ _ _ _ _ c.requires.opened.is c.requires.root c.loop-number.number c.node.result.now at c.in-Some.first
    (sym c.spawned_by.ensures ∙ c.in-Some.is)

pub take_child-requires-in-Some-clause-opened : goal.take_child-requires-in-Some-clause-opened
take_child-requires-in-Some-clause-opened g c = empties-open _ _ _ _ _ c.loop-number.invariant c.requires.opened

pub loop-number-preserved : goal.loop-number-preserved
loop-number-preserved g c =
    let at : slice_get (plan_at c.args.site.now).nodes c.loop-number.number ≡ Some c.node.result.now =
    ap (λ (b : Blueprint). slice_get b.nodes c.loop-number.number) (sym (c.site.invariant ∙ ap plan_at c.site.view_is)) ∙ c.node.ensures in
    elim c.match-spawned_by.branch [
      | in-Some w ↦
          subst (λ (h : HandSeat). EmptiesTops c.args.site.now c.args.taken.now (c.loop-number.number + 1) c.args.hand.now h) (sym w.hand-is)
          (empties-more _ _ c.loop-number.number c.node.result.now at _ _ c.loop-number.invariant w.in-Some.first
          (sym c.spawned_by.ensures ∙ w.in-Some.is) _ _ w.take_child-in-Some.ensures)
      | in-None w ↦
          subst (λ (h : HandSeat). EmptiesTops c.args.site.now c.args.taken.now (c.loop-number.number + 1) c.args.hand.now h) (sym w.hand-is)
          (empties-passed _ _ c.loop-number.number c.node.result.now at _ _ c.loop-number.invariant (sym c.spawned_by.ensures ∙ w.in-None.is))
    ]

pub returns : goal.returns
returns g c =
    let size = c.size-number-end.ensures.size in
    let plan = ap (λ (b : Blueprint). length b.nodes) (c.site.invariant ∙ ap plan_at c.site.view_is) in
    let last = c.loop-number-test.false in
    let within = c.loop-number.auto in
    subst (λ (n : ℕ). EmptiesTops c.args.site.now c.args.taken.now n c.args.hand.now c.loop-number.hand)
    (omega (arith, size, plan, last, within.number-end)) c.loop-number.invariant
