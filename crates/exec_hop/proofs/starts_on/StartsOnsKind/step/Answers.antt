use Rattle.std.proofs.Common.{Some, None, false, refl, ap, ◌∙◌}
use Rattle.plan_rules.specs.declared.node.Node.{Node}
use Rattle.plan_rules.specs.declared.node.Node.TheVariants.{StartsOn as IsStartsOn}
use Rattle.step_parts.proofs.Asked.{look-sees}
use Rattle.step_parts.proofs.Ended.{taken-on}
use Rattle.exec_hop.proofs.Did.{goes-back, goes-below}
use Rattle.exec_hop.proofs.Landed.{hop-hops, hop-lands, hop-starts}
use Rattle.exec_hop.proofs.Stepped.{lands-steps, ends-steps, stops-steps}
use Rattle.exec_hop.proofs.Taken.{at-taken, new-taken, up-open, up-only, up-one, steps-here}
use Rattle.exec_hop.proofs.starts_on.StartsOnsKind.step.Goals as goal

pub hop-requires : goal.hop-requires
hop-requires g c =
    let board = c.args.site.now in
    let x = c.args.name in
    let t = c.take_up-taken.result.0 in
    let up = c.take_up-taken.new.hand in
    let state = c.take_up-taken.result.1 in
    let takes = c.take_up-taken.ensures in
    let node : Node = IsStartsOn c.in-StartsOn.on c.in-StartsOn.child in
    let at = c.node.ensures ∙ ap (λ (n : Node). Some n) c.in-StartsOn.is in
    record { may = hop-hops board t up (new-taken board x node at tt c.args.hand.now up c.requires.may t state takes c.in-Start.is) node (at-taken board x node at tt c.args.hand.now up c.requires.may t state takes) tt tt None tt }

pub take_back-requires : goal.take_back-requires
take_back-requires g c =
    let board = c.args.site.now in
    let x = c.args.name in
    let t = c.take_up-taken.result.0 in
    let up = c.take_up-taken.new.hand in
    let state = c.take_up-taken.result.1 in
    let takes = c.take_up-taken.ensures in
    let node : Node = IsStartsOn c.in-StartsOn.on c.in-StartsOn.child in
    let at = c.node.ensures ∙ ap (λ (n : Node). Some n) c.in-StartsOn.is in
    record {
      only = up-only board x node at tt c.args.hand.now up c.requires.may t state takes c.in-StartsOn.child refl;
      one = up-one board x node at tt c.args.hand.now up c.requires.may t state takes c.in-StartsOn.child refl;
      opened = up-open board x node at tt c.args.hand.now up c.requires.may t state takes;
    }

pub pass_unless_stopped-requires : goal.pass_unless_stopped-requires
pass_unless_stopped-requires g c =
    let board = c.args.site.now in
    let x = c.args.name in
    let t = c.take_up-taken.result.0 in
    let up = c.take_up-taken.new.hand in
    let state = c.take_up-taken.result.1 in
    let takes = c.take_up-taken.ensures in
    let node : Node = IsStartsOn c.in-StartsOn.on c.in-StartsOn.child in
    let at = c.node.ensures ∙ ap (λ (n : Node). Some n) c.in-StartsOn.is in
    let back = c.in-Some.ensures.takes in
    record {
      may = hop-lands board t c.take_back.new.hand back.taken node (at-taken board x node at tt c.args.hand.now up c.requires.may t state takes) tt c.in-StartsOn.child refl c.in-Some.parcel
          back.parcel tt tt false (λ none. refl);
    }

pub start_unless_stopped-requires : goal.start_unless_stopped-requires
start_unless_stopped-requires g c =
    let board = c.args.site.now in
    let x = c.args.name in
    let t = c.take_up-taken.result.0 in
    let up = c.take_up-taken.new.hand in
    let state = c.take_up-taken.result.1 in
    let takes = c.take_up-taken.ensures in
    let node : Node = IsStartsOn c.in-StartsOn.on c.in-StartsOn.child in
    let at = c.node.ensures ∙ ap (λ (n : Node). Some n) c.in-StartsOn.is in
    let saw = c.hear-saw.result in
    let heard = c.hear-saw.new.hand in
    record {
      may = hop-starts board t heard
          (taken-on board t c.take_back.new.hand heard c.hear-saw.ensures.keeps c.in-None.ensures.takes.taken) node (at-taken board x node at tt c.args.hand.now up c.requires.may t state takes)
          tt c.in-StartsOn.child refl tt refl saw (look-sees board t.name saw c.take_back.new.hand.me heard.me c.hear-saw.ensures.looked);
    }

pub returns-in-Start-clause-steps : goal.returns-in-Start-clause-steps
returns-in-Start-clause-steps g c =
    let board = c.args.site.now in
    let x = c.args.name in
    let t = c.take_up-taken.result.0 in
    let up = c.take_up-taken.new.hand in
    let state = c.take_up-taken.result.1 in
    let takes = c.take_up-taken.ensures in
    let node : Node = IsStartsOn c.in-StartsOn.on c.in-StartsOn.child in
    let at = c.node.ensures ∙ ap (λ (n : Node). Some n) c.in-StartsOn.is in
    steps-here board x node at tt c.args.hand.now up c.requires.may t state takes c.hop.result c.hop.new.hand
    (lands-steps board t c.hop.result c.in-StartsOn.on None up c.hop.new.hand c.hop.ensures)

pub returns-in-Some : goal.returns-in-Some
returns-in-Some g c =
    let board = c.args.site.now in
    let x = c.args.name in
    let t = c.take_up-taken.result.0 in
    let up = c.take_up-taken.new.hand in
    let state = c.take_up-taken.result.1 in
    let takes = c.take_up-taken.ensures in
    let node : Node = IsStartsOn c.in-StartsOn.on c.in-StartsOn.child in
    let at = c.node.ensures ∙ ap (λ (n : Node). Some n) c.in-StartsOn.is in
    let next = c.pass_unless_stopped.result in
    let new = c.pass_unless_stopped.new.hand in
    let ends = c.pass_unless_stopped.ensures in
    record {
      steps = steps-here board x node at tt c.args.hand.now up c.requires.may t state takes next new
          (ends-steps board t next c.in-Some.parcel false c.take_back.new.hand new ends);
      does = goes-back board x t state c.args.hand.now up takes c.in-StartsOn.on c.in-StartsOn.child at next c.in_default-state.not-Start
          (Some c.in-Some.parcel) c.take_back.new.hand new c.in-Some.ensures.takes c.in-Some.parcel refl ends;
    }

pub returns-in-None : goal.returns-in-None
returns-in-None g c =
    let board = c.args.site.now in
    let x = c.args.name in
    let t = c.take_up-taken.result.0 in
    let up = c.take_up-taken.new.hand in
    let state = c.take_up-taken.result.1 in
    let takes = c.take_up-taken.ensures in
    let node : Node = IsStartsOn c.in-StartsOn.on c.in-StartsOn.child in
    let at = c.node.ensures ∙ ap (λ (n : Node). Some n) c.in-StartsOn.is in
    let next = c.start_unless_stopped.result in
    let new = c.start_unless_stopped.new.hand in
    let heard = c.hear-saw.new.hand in
    record {
      steps = steps-here board x node at tt c.args.hand.now up c.requires.may t state takes next new
          (stops-steps board t next c.in-StartsOn.child c.hear-saw.result heard new c.start_unless_stopped.ensures);
      does = goes-below board x t state c.args.hand.now up takes c.in-StartsOn.on c.in-StartsOn.child at next c.in_default-state.not-Start
          None c.take_back.new.hand new c.in-None.ensures.takes refl
          (record {
            saw = c.hear-saw.result;
            middle = heard;
            looked = c.hear-saw.ensures.looked;
            starts = c.start_unless_stopped.ensures;
          });
    }
