use Rattle.steal_pool.proofs.Kept.{kept-first, kept-other}
use Rattle.steal_pool.proofs.worker_mail.WorkerMail.keep.Goals as goal

pub returns-then-self-clause-keeps : goal.returns-then-self-clause-keeps
returns-then-self-clause-keeps g c =
    let old = c.args.self.now in
    let new = c.submit.new.self in
    kept-other c.args.name old.has_own new.has_own old.desk new.desk c.if-self.true c.submit.ensures.goes

pub returns-clause-keeps : goal.returns-clause-keeps
returns-clause-keeps g c =
    let old = c.args.self.now in
    let new = c.give_backend.new.self in
    kept-first c.args.name old.has_own new.has_own old.desk new.desk c.if-self.false c.give_backend.ensures.goes
