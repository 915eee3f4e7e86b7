use Rattle.std.proofs.Common.{◌-◌, length}
use Rattle.plan_builder.proofs.builder.PlanBuilder.+is_barred.Given as goal

abbrev pub decreases-is_barred : goal.decreases-is_barred
decreases-is_barred l = length l.self.now - l.node
