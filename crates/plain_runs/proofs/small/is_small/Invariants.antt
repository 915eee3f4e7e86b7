use Rattle.plain_runs.proofs.SmallLaws.{AreSmall}
use Rattle.plain_runs.proofs.small.is_small.Given as goal

abbrev pub invariant-loop-number : goal.invariant-loop-number
invariant-loop-number l = AreSmall l.plan.nodes l.sigs l.number
