use Rattle.exec_job.proofs.OperandLemmas.{one-length, one-kind, not_int}
use Rattle.exec_job.proofs.operands.only_int.Goals as goal

pub only-requires : goal.only-requires
only-requires c = one-length c.args.operands.now _ c.requires

pub unreachable-requires : goal.unreachable-requires
unreachable-requires c = not_int _ (one-kind c.args.operands.now c.only.result.now _ c.requires c.only.ensures) c.in_default.not-Int
