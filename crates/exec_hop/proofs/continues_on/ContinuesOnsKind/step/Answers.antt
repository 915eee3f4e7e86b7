use Rattle.std.proofs.Common.{Some, None, false, ◌||◌, refl, sym, ap, ◌∙◌}
use Rattle.plan_rules.specs.declared.node.Node.{Node}
use Rattle.plan_rules.specs.declared.node.Node.TheVariants.{ContinuesOn as IsContinuesOn}
use Rattle.home_items.specs.Parcels.{delivery_of}
use Rattle.step_parts.proofs.Started.{starts-steps}
use Rattle.step_parts.proofs.Took.{taken-inner}
use Rattle.exec_hop.proofs.Did.{hops-back, lands-below}
use Rattle.exec_hop.proofs.Landed.{hop-hops, hop-stops, hop-runs-child}
use Rattle.exec_hop.proofs.Stepped.{lands-steps, goes-steps}
use Rattle.exec_hop.proofs.Taken.{at-taken, new-taken, new-idle, up-open, up-only, up-one, steps-here, goes-on}
use Rattle.exec_hop.proofs.continues_on.ContinuesOnsKind.step.Goals as goal

pub complete_stopped-requires : goal.complete_stopped-requires
complete_stopped-requires g c =
    let board = c.args.site.now in
    let x = c.args.name in
    let t = c.take_up-taken.result.0 in
    let up = c.take_up-taken.new.hand in
    let state = c.take_up-taken.result.1 in
    let takes = c.take_up-taken.ensures in
    let node : Node = IsContinuesOn c.in-ContinuesOn.child c.in-ContinuesOn.on in
    let at = c.node.ensures ∙ ap (λ (n : Node). Some n) c.in-ContinuesOn.is in
    record {
      may = hop-stops board t up (new-taken board x node at tt c.args.hand.now up c.requires.may t state takes c.in-Start.is) node (at-taken board x node at tt c.args.hand.now up c.requires.may t state takes) tt tt false (λ none. refl)
          (ap (λ b. b || false) (sym c.asked.ensures ∙ c.if-asked.true));
    }

pub start_child-requires-clause-inner : goal.start_child-requires-clause-inner
start_child-requires-clause-inner g c =
    let board = c.args.site.now in
    let x = c.args.name in
    let t = c.take_up-taken.result.0 in
    let up = c.take_up-taken.new.hand in
    let state = c.take_up-taken.result.1 in
    let takes = c.take_up-taken.ensures in
    let node : Node = IsContinuesOn c.in-ContinuesOn.child c.in-ContinuesOn.on in
    let at = c.node.ensures ∙ ap (λ (n : Node). Some n) c.in-ContinuesOn.is in
    taken-inner board t up (new-taken board x node at tt c.args.hand.now up c.requires.may t state takes c.in-Start.is) node (at-taken board x node at tt c.args.hand.now up c.requires.may t state takes)

pub start_child-requires-clause-may : goal.start_child-requires-clause-may
start_child-requires-clause-may g c =
    let board = c.args.site.now in
    let x = c.args.name in
    let t = c.take_up-taken.result.0 in
    let up = c.take_up-taken.new.hand in
    let state = c.take_up-taken.result.1 in
    let takes = c.take_up-taken.ensures in
    let node : Node = IsContinuesOn c.in-ContinuesOn.child c.in-ContinuesOn.on in
    let at = c.node.ensures ∙ ap (λ (n : Node). Some n) c.in-ContinuesOn.is in
    hop-runs-child board t up (new-taken board x node at tt c.args.hand.now up c.requires.may t state takes c.in-Start.is) node (at-taken board x node at tt c.args.hand.now up c.requires.may t state takes) tt c.in-ContinuesOn.child refl false
    (sym (sym c.asked.ensures ∙ c.if-asked.false))

pub start_child-requires-clause-idle : goal.start_child-requires-clause-idle
start_child-requires-clause-idle g c =
    let board = c.args.site.now in
    let x = c.args.name in
    let t = c.take_up-taken.result.0 in
    let up = c.take_up-taken.new.hand in
    let state = c.take_up-taken.result.1 in
    let takes = c.take_up-taken.ensures in
    let node : Node = IsContinuesOn c.in-ContinuesOn.child c.in-ContinuesOn.on in
    let at = c.node.ensures ∙ ap (λ (n : Node). Some n) c.in-ContinuesOn.is in
    new-idle board x node at tt c.args.hand.now up c.requires.may t state takes c.in-Start.is c.in-ContinuesOn.child refl

pub take_back_into-requires : goal.take_back_into-requires
take_back_into-requires g c =
    let board = c.args.site.now in
    let x = c.args.name in
    let t = c.take_up-taken.result.0 in
    let up = c.take_up-taken.new.hand in
    let state = c.take_up-taken.result.1 in
    let takes = c.take_up-taken.ensures in
    let node : Node = IsContinuesOn c.in-ContinuesOn.child c.in-ContinuesOn.on in
    let at = c.node.ensures ∙ ap (λ (n : Node). Some n) c.in-ContinuesOn.is in
    record {
      only = up-only board x node at tt c.args.hand.now up c.requires.may t state takes c.in-ContinuesOn.child refl;
      one = up-one board x node at tt c.args.hand.now up c.requires.may t state takes c.in-ContinuesOn.child refl;
      opened = up-open board x node at tt c.args.hand.now up c.requires.may t state takes;
    }

pub hop_keeping-requires : goal.hop_keeping-requires
hop_keeping-requires g c =
    let board = c.args.site.now in
    let x = c.args.name in
    let t = c.take_up-taken.result.0 in
    let up = c.take_up-taken.new.hand in
    let state = c.take_up-taken.result.1 in
    let takes = c.take_up-taken.ensures in
    let node : Node = IsContinuesOn c.in-ContinuesOn.child c.in-ContinuesOn.on in
    let at = c.node.ensures ∙ ap (λ (n : Node). Some n) c.in-ContinuesOn.is in
    let back = c.in-Some.ensures.takes in
    record {
      may = hop-hops board t c.take_back_into.new.hand back.taken node (at-taken board x node at tt c.args.hand.now up c.requires.may t state takes) tt
          tt (Some (delivery_of c.in-Some.label c.take_back_into.new.done)) back.parcel;
      lawful = back.parcel.from.delivers;
    }

pub land-requires : goal.land-requires
land-requires g c =
    let board = c.args.site.now in
    let x = c.args.name in
    let t = c.take_up-taken.result.0 in
    let up = c.take_up-taken.new.hand in
    let state = c.take_up-taken.result.1 in
    let takes = c.take_up-taken.ensures in
    let node : Node = IsContinuesOn c.in-ContinuesOn.child c.in-ContinuesOn.on in
    let at = c.node.ensures ∙ ap (λ (n : Node). Some n) c.in-ContinuesOn.is in
    record {
      may = goes-on board x c.in-ContinuesOn.child c.in-ContinuesOn.on at c.args.hand.now up c.take_back_into.new.hand c.requires.may t state takes None
          c.in-None.ensures.takes;
    }

pub returns-in-Start-clause-steps : goal.returns-in-Start-clause-steps
returns-in-Start-clause-steps g c =
    let board = c.args.site.now in
    let x = c.args.name in
    let t = c.take_up-taken.result.0 in
    let up = c.take_up-taken.new.hand in
    let state = c.take_up-taken.result.1 in
    let takes = c.take_up-taken.ensures in
    let node : Node = IsContinuesOn c.in-ContinuesOn.child c.in-ContinuesOn.on in
    let at = c.node.ensures ∙ ap (λ (n : Node). Some n) c.in-ContinuesOn.is in
    steps-here board x node at tt c.args.hand.now up c.requires.may t state takes c.start_child.result c.start_child.new.hand
    (starts-steps board t c.start_child.result up c.start_child.new.hand c.in-ContinuesOn.child c.start_child.ensures)

pub returns-in-Some : goal.returns-in-Some
returns-in-Some g c =
    let board = c.args.site.now in
    let x = c.args.name in
    let t = c.take_up-taken.result.0 in
    let up = c.take_up-taken.new.hand in
    let state = c.take_up-taken.result.1 in
    let takes = c.take_up-taken.ensures in
    let node : Node = IsContinuesOn c.in-ContinuesOn.child c.in-ContinuesOn.on in
    let at = c.node.ensures ∙ ap (λ (n : Node). Some n) c.in-ContinuesOn.is in
    let parcel = delivery_of c.in-Some.label c.take_back_into.new.done in
    record {
      steps = steps-here board x node at tt c.args.hand.now up c.requires.may t state takes c.hop_keeping.result c.hop_keeping.new.hand
          (lands-steps board t c.hop_keeping.result c.in-ContinuesOn.on (Some parcel) c.take_back_into.new.hand c.hop_keeping.new.hand c.hop_keeping.ensures);
      does = hops-back board x t state c.args.hand.now up takes c.in-ContinuesOn.child c.in-ContinuesOn.on at c.hop_keeping.result c.in_default-state.not-Start
          (Some parcel) c.take_back_into.new.hand c.hop_keeping.new.hand c.in-Some.ensures.takes parcel refl c.hop_keeping.ensures;
    }

pub returns-in-ContinuesOn : goal.returns-in-ContinuesOn
returns-in-ContinuesOn g c =
    let board = c.args.site.now in
    let x = c.args.name in
    let t = c.take_up-taken.result.0 in
    let up = c.take_up-taken.new.hand in
    let state = c.take_up-taken.result.1 in
    let takes = c.take_up-taken.ensures in
    let node : Node = IsContinuesOn c.in-ContinuesOn.child c.in-ContinuesOn.on in
    let at = c.node.ensures ∙ ap (λ (n : Node). Some n) c.in-ContinuesOn.is in
    record {
      steps = steps-here board x node at tt c.args.hand.now up c.requires.may t state takes c.land.result c.land.new.hand
          (goes-steps board t c.land.result c.in-ContinuesOn.child c.take_back_into.new.hand c.land.new.hand c.land.ensures);
      does = lands-below board x t state c.args.hand.now up takes c.in-ContinuesOn.child c.in-ContinuesOn.on at c.land.result c.in_default-state.not-Start
          None c.take_back_into.new.hand c.land.new.hand c.in-None.ensures.takes refl c.land.ensures;
    }
