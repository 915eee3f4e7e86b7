use Rattle.std.proofs.Common.{Bool, ℕ, sym, subst}
use Rattle.table_steps.specs.Readings.{KnowsIdle}
use Rattle.step_parts.specs.Starts.{MayRun}
use Rattle.step_parts.proofs.Started.{starts-steps}
use Rattle.exec_let.specs.Kinds.{let_child}
use Rattle.exec_let.proofs.Stepped.{first-inner, first-runs, first-idle, may-open, does-on, steps-so}
use Rattle.exec_let.proofs.stepping.LetsKind.step.Goals as goal

pub start_child-requires-clause-inner : goal.start_child-requires-clause-inner
start_child-requires-clause-inner g c =
    first-inner c.args.site.now c.args.name c.node-node.result.now c.take_up-taken.result.0 c.take_up-taken.result.1 c.args.hand.now
    c.take_up-taken.new.hand c.requires.kind c.requires.may c.take_up-taken.ensures c.node-node.ensures c.in-Start.is

pub start_child-requires-clause-may : goal.start_child-requires-clause-may
start_child-requires-clause-may g c =
    let t = c.take_up-taken.result.0 in
    let up = c.take_up-taken.new.hand in
    subst (λ (n : ℕ). MayRun c.args.site.now t n c.asked-asked.result up) (sym c.let_child.ensures)
    (subst (λ (asked : Bool). MayRun c.args.site.now t (let_child c.node-node.result.now) asked up) (sym c.asked-asked.ensures)
    (first-runs c.args.site.now c.args.name c.node-node.result.now t c.take_up-taken.result.1 c.args.hand.now up c.requires.kind c.requires.may
    c.take_up-taken.ensures c.node-node.ensures c.in-Start.is))

pub start_child-requires-clause-idle : goal.start_child-requires-clause-idle
start_child-requires-clause-idle g c =
    let t = c.take_up-taken.result.0 in
    let up = c.take_up-taken.new.hand in
    subst (λ (n : ℕ). KnowsIdle t.name n up.me) (sym c.let_child.ensures)
    (first-idle c.args.site.now c.args.name c.node-node.result.now t c.take_up-taken.result.1 c.args.hand.now up c.requires.kind c.requires.may
    c.take_up-taken.ensures c.node-node.ensures c.in-Start.is)

pub step_begun-requires : goal.step_begun-requires
step_begun-requires g c = record {
  may = may-open c.args.site.now c.args.name c.node-node.result.now c.take_up-taken.result.0 c.take_up-taken.result.1 c.args.hand.now
      c.take_up-taken.new.hand c.requires.kind c.requires.may c.take_up-taken.ensures c.node-node.ensures;
}

pub returns-in-Start-clause-steps : goal.returns-in-Start-clause-steps
returns-in-Start-clause-steps g c =
    let t = c.take_up-taken.result.0 in
    let up = c.take_up-taken.new.hand in
    steps-so c.args.site.now c.args.name c.node-node.result.now t c.take_up-taken.result.1 c.args.hand.now up c.requires.kind c.requires.may
    c.take_up-taken.ensures c.node-node.ensures c.start_child.result c.start_child.new.hand
    (starts-steps c.args.site.now t c.start_child.result up c.start_child.new.hand c.let_child.result c.start_child.ensures)

pub returns-in_default : goal.returns-in_default
returns-in_default g c =
    let t = c.take_up-taken.result.0 in
    let up = c.take_up-taken.new.hand in
    record {
      steps = steps-so c.args.site.now c.args.name c.node-node.result.now t c.take_up-taken.result.1 c.args.hand.now up c.requires.kind
          c.requires.may c.take_up-taken.ensures c.node-node.ensures c.step_begun.result c.step_begun.new.hand c.step_begun.ensures.steps;
      does = does-on c.args.site.now c.args.name c.node-node.result.now t c.take_up-taken.result.1 c.args.hand.now up c.requires.kind
          c.requires.may c.take_up-taken.ensures c.node-node.ensures c.in_default.not-Start c.step_begun.result c.step_begun.new.hand
          c.step_begun.ensures.begun;
    }
