use Rattle.std.proofs.Common.{◌≡◌, false, take}
use Rattle.std.specs.List.{list_any}
use Rattle.plan_shape.specs.Finish.{is_ahead}
use Rattle.line_rules.proofs.window.has_ahead.Given as goal

abbrev pub invariant-loop-number : goal.invariant-loop-number
invariant-loop-number l = list_any is_ahead (take l.number l.plan.nodes) ≡ false
