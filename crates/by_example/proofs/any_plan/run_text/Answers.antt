use Rattle.std.proofs.Common.{refl}
use Rattle.by_example.proofs.AnyPlan.{read-matches, read-may-run, runs-text}
use Rattle.by_example.proofs.any_plan.run_text.Goals as goal

pub run_lines-requires-clause-kinds : goal.run_lines-requires-clause-kinds
run_lines-requires-clause-kinds g c κs within =
    read-matches c.args.text.now c.in_ok-plan.plan ((c.in_ok-plan.ensures.plan c.in_ok-plan.plan).0 refl).0

pub run_lines-requires-clause-may_run : goal.run_lines-requires-clause-may_run
run_lines-requires-clause-may_run g c κs within =
    read-may-run c.args.text.now c.in_ok-plan.plan ((c.in_ok-plan.ensures.plan c.in_ok-plan.plan).0 refl).0 c.size.ensures.plan

pub returns-clause-runs : goal.returns-clause-runs
returns-clause-runs g c =
    runs-text c.args.text.now c.in_ok-plan.plan c.at_once.result _ _ c.in_ok-account.account
    ((c.in_ok-plan.ensures.plan c.in_ok-plan.plan).0 refl).0 c.at_once.ensures c.in_ok-account.ensures.ends c.in_ok-account.ensures.closed
