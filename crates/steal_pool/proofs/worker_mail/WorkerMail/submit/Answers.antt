use Rattle.std.proofs.Common.{inl}
use Rattle.deck_relay.specs.Desks.{desk-on}
use Rattle.steal_pool.proofs.Kept.{keeps-same, then-backend}
use Rattle.steal_pool.proofs.worker_mail.WorkerMail.submit.Goals as goal

pub returns-in-Ok-clause-goes : goal.returns-in-Ok-clause-goes
returns-in-Ok-clause-goes g c = inl (c.in-Ok.ensures.enters, c.push.ensures.backend)

pub returns-in-Err-clause-desk : goal.returns-in-Err-clause-desk
returns-in-Err-clause-desk g c =
    desk-on c.args.self.now.desk c.push.new.self.desk c.submit_to_backend.new.self.desk c.push.ensures.desk
    (keeps-same c.push.new.self.desk c.submit_to_backend.new.self.desk c.submit_to_backend.ensures.desk)

pub returns-in-Err-clause-goes : goal.returns-in-Err-clause-goes
returns-in-Err-clause-goes g c =
    let asked = c.submit_to_backend in
    then-backend c.args.name c.in-Err.back c.args.self.now.desk c.push.new.self.desk asked.new.self.desk asked.result c.in-Err.ensures.back
    asked.ensures.desk c.push.ensures.backend asked.ensures.taken asked.ensures.refused
