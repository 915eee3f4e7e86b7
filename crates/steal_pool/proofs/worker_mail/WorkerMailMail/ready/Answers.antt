use Rattle.std.proofs.Common.{rules}
use Rattle.steal_pool.proofs.worker_mail.WorkerMailMail.ready.Goals as goal

pub returns-in-Pool-clause-hears : goal.returns-in-Pool-clause-hears
returns-in-Pool-clause-hears g c = search rules

pub returns-in-Loop-clause-hears : goal.returns-in-Loop-clause-hears
returns-in-Loop-clause-hears g c = search rules
