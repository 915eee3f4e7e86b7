use Rattle.std.proofs.Common.{◌≡◌, ◌≤◌, ap, ◌∙◌, subst}
use Rattle.plan_rules.specs.declared.settings.Settings.{Settings}
use Rattle.plan_shape.specs.Blueprint.{Blueprint}
use Rattle.exec_recv.specs.Sites.{plan_at}
use Rattle.step_parts.proofs.Ended.{opens}
use Rattle.exec_adapt.proofs.Emptied.{child-open}
use Rattle.exec_adapt.proofs.Receiving.{named-child}
use Rattle.exec_adapt.proofs.TopPlaces.{old-spawns}
use Rattle.exec_adapt.proofs.TopTaken.{back-single, back-several}
use Rattle.exec_adapt.proofs.opening.take_top.Goals as goal

pub take_child-below-requires-clause-child : goal.take_child-below-requires-clause-child
take_child-below-requires-clause-child g c =
    named-child _ _ _ _ _ c.requires.may.rested.is c.requires.may.root c.args.child c.requires.may.names

pub take_child-below-requires-clause-opened : goal.take_child-below-requires-clause-opened
take_child-below-requires-clause-opened g c = opens _ _ _ _ _ c.requires.may.rested.is

pub empty_others-requires-clause-root : goal.empty_others-requires-clause-root
empty_others-requires-clause-root g c = c.requires.may.root

pub empty_others-requires-clause-opened : goal.empty_others-requires-clause-opened
empty_others-requires-clause-opened g c = child-open _ _ _ _ _ _ c.take_child-below.ensures (opens _ _ _ _ _ c.requires.may.rested.is)

pub returns-then-settings-le1 : goal.returns-then-settings-le1
returns-then-settings-le1 g c =
    let is : c.settings.result.now ≡ (plan_at c.args.site.now).settings =
    c.settings.ensures ∙ ap (λ (b : Blueprint). b.settings) (c.site.invariant ∙ ap plan_at c.site.view_is) in
    back-single _ _ _ _ _ _ c.requires.may c.take_child-below.ensures
    (old-spawns (plan_at c.args.site.now) c.requires.may.rested.is.site.over.is_plan (subst (λ (s : Settings). s.version ≤ 1) is c.if-settings-le1.true))

pub returns : goal.returns
returns g c = back-several _ _ _ _ _ _ c.requires.may c.take_child-below.ensures _ c.empty_others.ensures
