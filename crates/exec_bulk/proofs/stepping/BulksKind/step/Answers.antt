use Rattle.std.proofs.Common.{Some, sym, ap, ◌∙◌}
use Rattle.plan_rules.specs.declared.node.Node.{Node}
use Rattle.exec_recv.specs.Sites.{node_at}
use Rattle.step_parts.proofs.Started.{starts-steps}
use Rattle.exec_bulk.proofs.Opened.{rests-back}
use Rattle.exec_bulk.proofs.Stepped.{back-steps, joins-steps, steps-up}
use Rattle.exec_bulk.proofs.Taken.{new-idle, new-inner, new-runs, rest-up}
use Rattle.exec_bulk.proofs.stepping.BulksKind.step.Goals as goal

pub start_child-requires-clause-inner : goal.start_child-requires-clause-inner
start_child-requires-clause-inner g c =
    let up = c.take_up-taken in
    new-inner c.args.site.now c.args.name up.result.0 up.result.1 c.args.hand.now up.new.hand up.ensures c.requires.may.can c.in-Bulk.child c.in-Bulk.job
    (c.node.ensures ∙ ap (λ (n : Node). Some n) c.in-Bulk.is) c.in-Start.is

pub start_child-requires-clause-may : goal.start_child-requires-clause-may
start_child-requires-clause-may g c =
    let up = c.take_up-taken in
    new-runs c.args.site.now c.args.name up.result.0 up.result.1 c.args.hand.now up.new.hand up.ensures c.requires.may.can c.in-Bulk.child c.in-Bulk.job
    (c.node.ensures ∙ ap (λ (n : Node). Some n) c.in-Bulk.is) c.in-Start.is c.asked-asked.result c.asked-asked.ensures

pub start_child-requires-clause-idle : goal.start_child-requires-clause-idle
start_child-requires-clause-idle g c =
    let up = c.take_up-taken in
    new-idle c.args.site.now c.args.name up.result.0 up.result.1 c.args.hand.now up.new.hand up.ensures c.requires.may.can c.in-Bulk.child c.in-Bulk.job
    (c.node.ensures ∙ ap (λ (n : Node). Some n) c.in-Bulk.is) c.in-Start.is

pub step_begun-requires : goal.step_begun-requires
step_begun-requires g c =
    let up = c.take_up-taken in
    record {
      may = rests-back c.args.site.now up.result.0 c.in-Bulk.child up.new.hand
          (rest-up c.args.site.now c.args.name up.result.0 up.result.1 c.args.hand.now up.new.hand up.ensures c.requires.may.can c.in-Bulk.child
          c.in-Bulk.job (c.node.ensures ∙ ap (λ (n : Node). Some n) c.in-Bulk.is) c.in_default-state.not-Start c.in_default-state.not-Kept);
    }

pub returns-in-Start-clause-steps : goal.returns-in-Start-clause-steps
returns-in-Start-clause-steps g c =
    let up = c.take_up-taken in
    steps-up c.args.site.now up.result.0 c.args.name c.args.hand.now c.start_child.new.hand c.start_child.result up.ensures.name_is up.ensures.from_is
    (starts-steps c.args.site.now up.result.0 c.start_child.result up.new.hand c.start_child.new.hand c.in-Bulk.child c.start_child.ensures)

pub returns-in-Kept-clause-steps : goal.returns-in-Kept-clause-steps
returns-in-Kept-clause-steps g c =
    let up = c.take_up-taken in
    steps-up c.args.site.now up.result.0 c.args.name c.args.hand.now c.join_parts.new.hand c.join_parts.result up.ensures.name_is up.ensures.from_is
    (joins-steps c.args.site.now up.result.0 c.join_parts.result c.in-Bulk.child c.join_parts.new.hand up.new.hand c.in-Bulk.job
    (ap (node_at c.args.site.now) up.ensures.name_is ∙ c.node.ensures ∙ ap (λ (n : Node). Some n) c.in-Bulk.is) c.join_parts.ensures)

pub returns-in_default-state-clause-steps : goal.returns-in_default-state-clause-steps
returns-in_default-state-clause-steps g c =
    let up = c.take_up-taken in
    steps-up c.args.site.now up.result.0 c.args.name c.args.hand.now c.step_begun.new.hand c.step_begun.result up.ensures.name_is up.ensures.from_is
    (back-steps c.args.site.now up.result.0 c.step_begun.result c.in-Bulk.child c.step_begun.new.hand up.new.hand c.step_begun.ensures)

pub returns-in-Start-clause-does : goal.returns-in-Start-clause-does
returns-in-Start-clause-does g c =
    record {
      child = c.in-Bulk.child;
      job = c.in-Bulk.job;
      node_is = c.node.ensures ∙ ap (λ (n : Node). Some n) c.in-Bulk.is;
      taken = c.take_up-taken.result.0;
      state = c.take_up-taken.result.1;
      up = c.take_up-taken.new.hand;
      takes = c.take_up-taken.ensures;
      starts = λ _. c.start_child.ensures;
      goes_on = λ e. let wrong = sym c.in-Start.is ∙ e in cc;
      joins = λ e. let wrong = sym c.in-Start.is ∙ e in cc;
    }

pub returns-in-Kept-clause-does : goal.returns-in-Kept-clause-does
returns-in-Kept-clause-does g c =
    record {
      child = c.in-Bulk.child;
      job = c.in-Bulk.job;
      node_is = c.node.ensures ∙ ap (λ (n : Node). Some n) c.in-Bulk.is;
      taken = c.take_up-taken.result.0;
      state = c.take_up-taken.result.1;
      up = c.take_up-taken.new.hand;
      takes = c.take_up-taken.ensures;
      starts = λ e. let wrong = sym c.in-Kept.is ∙ e in cc;
      goes_on = λ e. let wrong = sym c.in-Kept.is ∙ e in cc;
      joins = λ _. c.join_parts.ensures;
    }

pub returns-in_default-state-clause-does : goal.returns-in_default-state-clause-does
returns-in_default-state-clause-does g c =
    record {
      child = c.in-Bulk.child;
      job = c.in-Bulk.job;
      node_is = c.node.ensures ∙ ap (λ (n : Node). Some n) c.in-Bulk.is;
      taken = c.take_up-taken.result.0;
      state = c.take_up-taken.result.1;
      up = c.take_up-taken.new.hand;
      takes = c.take_up-taken.ensures;
      starts = λ e. absurd (c.in_default-state.not-Start e);
      goes_on = λ _. c.step_begun.ensures;
      joins = λ e. absurd (c.in_default-state.not-Kept e);
    }
