use Rattle.std.proofs.Common.{◌≡◌, true, sym, ap, ◌∙◌, arith}
use Rattle.plan_rules.specs.declared.settings.Settings.{Settings}
use Rattle.plain_runs.proofs.SmallLaws.{AreSmall-none, AreSmall-more, small-all, large-value}
use Rattle.plain_runs.proofs.small.is_small.Goals as goal

pub loop-number-init : goal.loop-number-init
loop-number-init c = AreSmall-none c.args.plan.now.nodes c.args.sigs.now

pub loop-number-preserved : goal.loop-number-preserved
loop-number-preserved c =
    AreSmall-more c.node.result.now c.of.result.now c.loop-number.invariant c.node.ensures c.of.ensures
    (c.is_small_node.ensures.yes c.if-not-is_small_node.false) (c.is_small_value.ensures.yes c.if-not-is_small_value.false)

pub returns-then-not-is_int-clause-no : goal.returns-then-not-is_int-clause-no
returns-then-not-is_int-clause-no c = λ _ small.
    let holds : c.is_int.result ≡ true = c.is_int.ensures.no (ap (λ (s : Settings). s.input) c.settings.ensures ∙ small.input) in cc

pub returns-then-not-is_small_node-clause-no : goal.returns-then-not-is_small_node-clause-no
returns-then-not-is_small_node-clause-no c = λ _ small.
    c.is_small_node.ensures.no c.if-not-is_small_node.true (small.nodes_are c.loop-number.number c.node.result.now c.node.ensures)

pub returns-then-not-is_small_value-clause-no : goal.returns-then-not-is_small_value-clause-no
returns-then-not-is_small_value-clause-no c = λ _.
    large-value c.args.plan.now c.args.sigs.now c.loop-number.number c.of.result.now c.size-number-end.ensures.plan c.requires (omega (arith, c.size-number-end.ensures.size)) c.of.ensures
    (c.is_small_value.ensures.no c.if-not-is_small_value.true)

pub returns-clause-yes : goal.returns-clause-yes
returns-clause-yes c = λ _.
    small-all c.args.plan.now c.args.sigs.now c.loop-number.number c.requires
    (sym (ap (λ (s : Settings). s.input) c.settings.ensures) ∙ c.is_int.ensures.yes c.if-not-is_int.false) c.loop-number.invariant (omega (arith, c.size-number-end.ensures.size))
