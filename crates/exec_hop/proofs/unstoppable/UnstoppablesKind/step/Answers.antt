use Rattle.std.proofs.Common.{Some, None, false, refl, ap, ◌∙◌}
use Rattle.plan_rules.specs.declared.node.Node.{Node}
use Rattle.plan_rules.specs.declared.node.Node.TheVariants.{Unstoppable}
use Rattle.step_parts.proofs.Started.{starts-steps, again-steps}
use Rattle.step_parts.proofs.Took.{taken-inner}
use Rattle.exec_hop.proofs.Did.{shelters-back, shelters-below}
use Rattle.exec_hop.proofs.Landed.{hop-passes, hop-runs-child}
use Rattle.exec_hop.proofs.Taken.{at-taken, new-taken, new-idle, up-open, up-only, up-one, steps-here, sheltered}
use Rattle.exec_hop.proofs.unstoppable.UnstoppablesKind.step.Goals as goal

pub start_child-requires-clause-inner : goal.start_child-requires-clause-inner
start_child-requires-clause-inner g c =
    let board = c.args.site.now in
    let x = c.args.name in
    let t = c.take_up-taken.result.0 in
    let up = c.take_up-taken.new.hand in
    let state = c.take_up-taken.result.1 in
    let takes = c.take_up-taken.ensures in
    let node : Node = Unstoppable c.in-Unstoppable.child in
    let at = c.node.ensures ∙ ap (λ (n : Node). Some n) c.in-Unstoppable.is in
    taken-inner board t up (new-taken board x node at tt c.args.hand.now up c.requires.may t state takes c.in-Start.is) node (at-taken board x node at tt c.args.hand.now up c.requires.may t state takes)

pub start_child-requires-clause-may : goal.start_child-requires-clause-may
start_child-requires-clause-may g c =
    let board = c.args.site.now in
    let x = c.args.name in
    let t = c.take_up-taken.result.0 in
    let up = c.take_up-taken.new.hand in
    let state = c.take_up-taken.result.1 in
    let takes = c.take_up-taken.ensures in
    let node : Node = Unstoppable c.in-Unstoppable.child in
    let at = c.node.ensures ∙ ap (λ (n : Node). Some n) c.in-Unstoppable.is in
    hop-runs-child board t up (new-taken board x node at tt c.args.hand.now up c.requires.may t state takes c.in-Start.is) node (at-taken board x node at tt c.args.hand.now up c.requires.may t state takes) tt c.in-Unstoppable.child refl false refl

pub start_child-requires-clause-idle : goal.start_child-requires-clause-idle
start_child-requires-clause-idle g c =
    let board = c.args.site.now in
    let x = c.args.name in
    let t = c.take_up-taken.result.0 in
    let up = c.take_up-taken.new.hand in
    let state = c.take_up-taken.result.1 in
    let takes = c.take_up-taken.ensures in
    let node : Node = Unstoppable c.in-Unstoppable.child in
    let at = c.node.ensures ∙ ap (λ (n : Node). Some n) c.in-Unstoppable.is in
    new-idle board x node at tt c.args.hand.now up c.requires.may t state takes c.in-Start.is c.in-Unstoppable.child refl

pub take_back-requires : goal.take_back-requires
take_back-requires g c =
    let board = c.args.site.now in
    let x = c.args.name in
    let t = c.take_up-taken.result.0 in
    let up = c.take_up-taken.new.hand in
    let state = c.take_up-taken.result.1 in
    let takes = c.take_up-taken.ensures in
    let node : Node = Unstoppable c.in-Unstoppable.child in
    let at = c.node.ensures ∙ ap (λ (n : Node). Some n) c.in-Unstoppable.is in
    record {
      only = up-only board x node at tt c.args.hand.now up c.requires.may t state takes c.in-Unstoppable.child refl;
      one = up-one board x node at tt c.args.hand.now up c.requires.may t state takes c.in-Unstoppable.child refl;
      opened = up-open board x node at tt c.args.hand.now up c.requires.may t state takes;
    }

pub pass_on-requires : goal.pass_on-requires
pass_on-requires g c =
    let board = c.args.site.now in
    let x = c.args.name in
    let t = c.take_up-taken.result.0 in
    let up = c.take_up-taken.new.hand in
    let state = c.take_up-taken.result.1 in
    let takes = c.take_up-taken.ensures in
    let node : Node = Unstoppable c.in-Unstoppable.child in
    let at = c.node.ensures ∙ ap (λ (n : Node). Some n) c.in-Unstoppable.is in
    let back = c.in-Some.ensures.takes in
    let here = at-taken board x node at tt c.args.hand.now up c.requires.may t state takes in
    record {
      may = hop-passes board t c.take_back.new.hand back.taken node here tt c.in-Unstoppable.child refl c.in-Some.parcel back.parcel refl
          (sheltered board t c.in-Unstoppable.child c.take_back.new.hand back.taken here c.in-Some.parcel c.in-Some.ensures.found);
    }

pub start_again-requires : goal.start_again-requires
start_again-requires g c =
    let board = c.args.site.now in
    let x = c.args.name in
    let t = c.take_up-taken.result.0 in
    let up = c.take_up-taken.new.hand in
    let state = c.take_up-taken.result.1 in
    let takes = c.take_up-taken.ensures in
    let node : Node = Unstoppable c.in-Unstoppable.child in
    let at = c.node.ensures ∙ ap (λ (n : Node). Some n) c.in-Unstoppable.is in
    let taken = c.in-None.ensures.takes.taken in
    let here = at-taken board x node at tt c.args.hand.now up c.requires.may t state takes in
    record {
      inner = taken-inner board t c.take_back.new.hand taken node here;
      may = hop-runs-child board t c.take_back.new.hand taken node here tt c.in-Unstoppable.child refl false refl;
    }

pub returns-in-Start-clause-steps : goal.returns-in-Start-clause-steps
returns-in-Start-clause-steps g c =
    let board = c.args.site.now in
    let x = c.args.name in
    let t = c.take_up-taken.result.0 in
    let up = c.take_up-taken.new.hand in
    let state = c.take_up-taken.result.1 in
    let takes = c.take_up-taken.ensures in
    let node : Node = Unstoppable c.in-Unstoppable.child in
    let at = c.node.ensures ∙ ap (λ (n : Node). Some n) c.in-Unstoppable.is in
    steps-here board x node at tt c.args.hand.now up c.requires.may t state takes c.start_child.result c.start_child.new.hand
    (starts-steps board t c.start_child.result up c.start_child.new.hand c.in-Unstoppable.child c.start_child.ensures)

pub returns-in-Some : goal.returns-in-Some
returns-in-Some g c =
    let board = c.args.site.now in
    let x = c.args.name in
    let t = c.take_up-taken.result.0 in
    let up = c.take_up-taken.new.hand in
    let state = c.take_up-taken.result.1 in
    let takes = c.take_up-taken.ensures in
    let node : Node = Unstoppable c.in-Unstoppable.child in
    let at = c.node.ensures ∙ ap (λ (n : Node). Some n) c.in-Unstoppable.is in
    record {
      steps = steps-here board x node at tt c.args.hand.now up c.requires.may t state takes c.pass_on.result c.pass_on.new.hand c.pass_on.ensures.steps;
      does = shelters-back board x t state c.args.hand.now up takes c.in-Unstoppable.child at c.pass_on.result c.in_default-state.not-Start
          (Some c.in-Some.parcel) c.take_back.new.hand c.pass_on.new.hand c.in-Some.ensures.takes c.in-Some.parcel refl c.pass_on.ensures;
    }

pub returns-in-None : goal.returns-in-None
returns-in-None g c =
    let board = c.args.site.now in
    let x = c.args.name in
    let t = c.take_up-taken.result.0 in
    let up = c.take_up-taken.new.hand in
    let state = c.take_up-taken.result.1 in
    let takes = c.take_up-taken.ensures in
    let node : Node = Unstoppable c.in-Unstoppable.child in
    let at = c.node.ensures ∙ ap (λ (n : Node). Some n) c.in-Unstoppable.is in
    record {
      steps = steps-here board x node at tt c.args.hand.now up c.requires.may t state takes c.start_again.result c.start_again.new.hand
          (again-steps board t c.in-Unstoppable.child c.start_again.result c.take_back.new.hand c.start_again.new.hand c.start_again.ensures);
      does = shelters-below board x t state c.args.hand.now up takes c.in-Unstoppable.child at c.start_again.result c.in_default-state.not-Start
          None c.take_back.new.hand c.start_again.new.hand c.in-None.ensures.takes refl c.start_again.ensures;
    }
