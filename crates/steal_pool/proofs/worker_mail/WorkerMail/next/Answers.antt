use Rattle.deck_relay.specs.Desks.{desk-on}
use Rattle.steal_pool.proofs.Kept.{keeps-same}
use Rattle.steal_pool.proofs.worker_mail.WorkerMail.next.Goals as goal

pub returns-in-Some : goal.returns-in-Some
returns-in-Some g c = keeps-same c.args.self.now.desk c.ask_backend.new.self.desk c.ask_backend.ensures

pub returns-in-None : goal.returns-in-None
returns-in-None g c =
    desk-on c.args.self.now.desk c.ask_backend.new.self.desk c.refill.new.self.desk
    (keeps-same c.args.self.now.desk c.ask_backend.new.self.desk c.ask_backend.ensures)
    c.refill.ensures
