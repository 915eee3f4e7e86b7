use Rattle.plan_kinds.proofs.law.trees_show_plans.Goals as goal
use Rattle.plan_kinds.proofs.Trees.{trees-show}

pub returns : goal.returns
returns c = trees-show
