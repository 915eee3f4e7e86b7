use Rattle.plain_runs.proofs.BlockLaws.{sound-free}
use Rattle.plain_runs.proofs.plain.PlainRuns.open.Goals as goal

pub invariant_of-result : goal.invariant_of-result
invariant_of-result c = sound-free c.args.plan.now c.args.blocks _ _ c.in_ok-free_blocks.ensures c.requires.some c.requires.few c.requires.kinds c.in_ok-find_small.ensures.wants
