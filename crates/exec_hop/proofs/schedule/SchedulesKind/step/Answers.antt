use Rattle.std.proofs.Common.{Some, None, refl, ap, ◌∙◌}
use Rattle.plan_rules.specs.declared.node.Node.{Node}
use Rattle.plan_rules.specs.declared.node.Node.TheVariants.{Schedule}
use Rattle.exec_hop.proofs.Landed.{hop-hops}
use Rattle.exec_hop.proofs.Stepped.{lands-steps}
use Rattle.exec_hop.proofs.Taken.{at-taken, new-taken, childless-taken, steps-here, finishes}
use Rattle.exec_hop.proofs.schedule.SchedulesKind.step.Goals as goal

pub hop-requires : goal.hop-requires
hop-requires g c =
    let board = c.args.site.now in
    let t = c.take_up-taken.result.0 in
    let up = c.take_up-taken.new.hand in
    let node : Node = Schedule c.in-Schedule.on in
    let at = c.node.ensures ∙ ap (λ (n : Node). Some n) c.in-Schedule.is in
    record {
      may = hop-hops board t up
          (new-taken board c.args.name node at tt c.args.hand.now up c.requires.may t c.take_up-taken.result.1 c.take_up-taken.ensures c.in-Start.is)
          node (at-taken board c.args.name node at tt c.args.hand.now up c.requires.may t c.take_up-taken.result.1 c.take_up-taken.ensures) tt tt None tt;
    }

pub finish-requires : goal.finish-requires
finish-requires g c =
    let board = c.args.site.now in
    let t = c.take_up-taken.result.0 in
    let up = c.take_up-taken.new.hand in
    let node : Node = Schedule c.in-Schedule.on in
    let at = c.node.ensures ∙ ap (λ (n : Node). Some n) c.in-Schedule.is in
    record {
      may = finishes board t c.in-Schedule.on up
          (childless-taken board c.args.name node at tt c.args.hand.now up c.requires.may t c.take_up-taken.result.1 c.take_up-taken.ensures refl)
          (at-taken board c.args.name node at tt c.args.hand.now up c.requires.may t c.take_up-taken.result.1 c.take_up-taken.ensures);
    }

pub returns-in-Start-clause-steps : goal.returns-in-Start-clause-steps
returns-in-Start-clause-steps g c =
    let board = c.args.site.now in
    let t = c.take_up-taken.result.0 in
    let at = c.node.ensures ∙ ap (λ (n : Node). Some n) c.in-Schedule.is in
    steps-here board c.args.name (Schedule c.in-Schedule.on) at tt c.args.hand.now c.take_up-taken.new.hand c.requires.may t c.take_up-taken.result.1
    c.take_up-taken.ensures c.hop.result c.hop.new.hand
    (lands-steps board t c.hop.result c.in-Schedule.on None c.take_up-taken.new.hand c.hop.new.hand c.hop.ensures)
