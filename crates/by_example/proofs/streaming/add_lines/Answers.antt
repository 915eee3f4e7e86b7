use Rattle.std.proofs.Common.{refl, sym, subst}
use Rattle.plan_kinds.specs.Reached.{KindsMatch}
use Rattle.plan_shape.specs.Blueprint.{Blueprint}
use Rattle.line_rules.specs.PlanTerms.{MayRun}
use Rattle.by_example.proofs.AdderKinds.{pool-matches}
use Rattle.by_example.proofs.LineLaws.{same-ends, ends-adding}
use Rattle.by_example.proofs.streaming.add_lines.Goals as goal

pub run_lines-requires-clause-kinds : goal.run_lines-requires-clause-kinds
run_lines-requires-clause-kinds g c κs within =
    subst (λ (plan : Blueprint). KindsMatch plan.nodes plan.settings.input) (sym c.in_ok-plan.ensures) pool-matches

pub run_lines-requires-clause-may_run : goal.run_lines-requires-clause-may_run
run_lines-requires-clause-may_run g c κs within =
    subst (λ (plan : Blueprint). MayRun plan.settings) (sym c.in_ok-plan.ensures) (record { stop_after = tt; rules = refl })

pub returns-clause-ends : goal.returns-clause-ends
returns-clause-ends g c = same-ends c.in_ok-plan.plan c.in_ok-plan.ensures _ _ c.run_lines.result c.run_lines.ensures.ends

pub returns-clause-adds : goal.returns-clause-adds
returns-clause-adds g c =
    ends-adding _ g.S.RecordSource.reads _ _ _ _ _ c.in_ok-plan.plan c.in_ok-plan.ensures c.run_lines.result c.run_lines.ensures.ends c.run_lines.ensures.closed
