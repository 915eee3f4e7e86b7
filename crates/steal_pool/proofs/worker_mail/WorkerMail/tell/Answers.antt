use Rattle.deck_relay.specs.Desks.{desk-here}
use Rattle.steal_pool.proofs.Kept.{keeps-some, tells-none, tells-some}
use Rattle.steal_pool.proofs.worker_mail.WorkerMail.tell.Goals as goal

pub returns-in-None-clause-desk : goal.returns-in-None-clause-desk
returns-in-None-clause-desk g c = desk-here c.args.self.now.desk

pub returns-in-None-clause-tells : goal.returns-in-None-clause-tells
returns-in-None-clause-tells g c = tells-none c.args.self.now.desk c.args.name c.in-None.is

pub returns-in-Some-clause-desk : goal.returns-in-Some-clause-desk
returns-in-Some-clause-desk g c = keeps-some c.args.self.now.desk c.in-Some.desk c.tell.new.self c.in-Some.is c.tell.ensures.same

pub returns-in-Some-clause-tells : goal.returns-in-Some-clause-tells
returns-in-Some-clause-tells g c = tells-some c.args.self.now.desk c.in-Some.desk c.tell.new.self c.in-Some.is c.args.name c.tell.ensures.tells
