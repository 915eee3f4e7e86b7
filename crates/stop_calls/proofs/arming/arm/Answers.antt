use Rattle.std.proofs.Common.{sym, ap, ◌∙◌, subst}
use Rattle.std.specs.Prelude.{Some}
use Rattle.node_tree.specs.Tree.{nearest}
use Rattle.life_rules.specs.States.{source_for}
use Rattle.stop_calls.specs.declared.arming.Armed.TheVariants.{Quiet}
use Rattle.table_steps.specs.Sights.{AgreesWithTold, IsLookedAt, StillAsked}
use Rattle.stop_calls.proofs.LookedAfter.{armed-so}
use Rattle.stop_calls.proofs.arming.arm.Goals as goal

pub returns-else-look_step-clause-armed : goal.returns-else-look_step-clause-armed
returns-else-look_step-clause-armed g c =
    let board = c.args.table.now in
    let is = c.if-look_step.false in
    armed-so (record { can = c.requires.needs; armed = c.arm_step.ensures.armed }) Quiet
    c.in-Some.source c.look_step.new.hand (ap (λ t. source_for c.args.node (nearest t c.args.node.node)) (sym c.tree.ensures.tree)
    ∙ sym c.source_above.ensures.nearest ∙ c.in-Some.is)
    (subst (λ b. IsLookedAt board c.in-Some.source (Some c.args.node) b c.arm_step.new.hand c.look_step.new.hand) is
    c.look_step.ensures.looked)
    (subst (StillAsked c.arm_step.new.hand.me.0 c.in-Some.source) is c.look_step.ensures.stands)
    (subst (AgreesWithTold board.frame.tree c.arm_step.new.hand.me.0 c.in-Some.source) is c.look_step.ensures.told)
