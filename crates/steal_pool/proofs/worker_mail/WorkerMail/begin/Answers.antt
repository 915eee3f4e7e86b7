use Rattle.std.proofs.Common.{rules}
use Rattle.steal_pool.proofs.worker_mail.WorkerMail.begin.Goals as goal

pub returns-in_default : goal.returns-in_default
returns-in_default g c = search rules
