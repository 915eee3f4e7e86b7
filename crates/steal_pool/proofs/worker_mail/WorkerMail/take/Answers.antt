use Rattle.deck_relay.specs.Desks.{desk-here}
use Rattle.steal_pool.proofs.Kept.{keeps-some}
use Rattle.steal_pool.proofs.worker_mail.WorkerMail.take.Goals as goal

pub returns-in-None : goal.returns-in-None
returns-in-None g c = desk-here c.args.self.now.desk

pub returns-in-Some : goal.returns-in-Some
returns-in-Some g c = keeps-some c.args.self.now.desk c.in-Some.desk c.take.new.self c.in-Some.is c.take.ensures
