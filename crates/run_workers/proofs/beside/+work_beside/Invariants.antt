use Rattle.std.proofs.Common.{vec_len}
use Rattle.run_workers.proofs.beside.+work_beside.Given as goal

-- one hand less is without its worker
abbrev pub decreases-work_beside : goal.decreases-work_beside
decreases-work_beside g l = vec_len l.staff.now.hands
