use Rattle.std.proofs.Common.{◌≡◌, ◌+◌, ◌-◌, [], ◌∷◌, length, Some, sym, ap, ◌∙◌, subst, arith}
use Rattle.plan_rules.specs.declared.settings.Settings.{Settings}
use Rattle.plan_kinds.specs.Reached.{Reaches}
use Rattle.sig_check.proofs.CheckLemmas.{all-found}
use Rattle.sig_check.proofs.checking.find_all.Goals as goal

pub walk-requires-clause-runs : goal.walk-requires-clause-runs
walk-requires-clause-runs c =
    let plan = c.args.plan.now in
    let some = c.size-root.ensures.plan.some in
    let size = c.size-root.ensures.size in
    let last : length plan.nodes ≡ c.size-root.result - 1 + 1 = omega (arith, some, size) in
    subst (λ l. Reaches plan.nodes plan.settings.input (c.size-root.result - 1) (Some l))
    (sym (c.one.ensures ∙ ap (λ (s : Settings). s.input ∷ []) c.settings.ensures)) (Reaches.root last)

pub returns-clause-all : goal.returns-clause-all
returns-clause-all c =
    let plan = c.args.plan.now in
    let some = c.size-root.ensures.plan.some in
    let size = c.size-root.ensures.size in
    let last : length plan.nodes ≡ c.size-root.result - 1 + 1 = omega (arith, some, size) in
    all-found plan c.size-root.ensures.plan c.walk_parts.new.findings.items c.walk.new.findings.items
    (c.size-root.result - 1) c.in_ok-walk_parts.ensures c.in_ok-walk.ensures.finds last
