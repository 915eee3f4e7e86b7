use Rattle.deck_relay.specs.Desks.{KeepsDesk}
use Rattle.steal_pool.proofs.worker_mail.WorkerMail.take_beside.Given as goal

abbrev pub invariant-loop-beside : goal.invariant-loop-beside
invariant-loop-beside g l = KeepsDesk l.fn.self.desk l.self.desk
