use Rattle.std.proofs.Common.{◌≡◌, false, take}
use Rattle.std.specs.List.{list_any}
use Rattle.exec_engine.specs.Crewing.{goes_to_pool}
use Rattle.exec_engine.proofs.crewing.uses_pool.Given as goal

abbrev pub invariant-loop-number : goal.invariant-loop-number
invariant-loop-number l = list_any goes_to_pool (take l.number l.plan.nodes) ≡ false
