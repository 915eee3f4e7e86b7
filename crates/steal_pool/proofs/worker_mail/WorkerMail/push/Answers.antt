use Rattle.deck_relay.specs.Desks.{desk-here}
use Rattle.steal_pool.proofs.Kept.{enters-some, keeps-some, leaves-none, leaves-some}
use Rattle.steal_pool.proofs.worker_mail.WorkerMail.push.Goals as goal

pub returns-in-None-clause-desk : goal.returns-in-None-clause-desk
returns-in-None-clause-desk g c = desk-here c.args.self.now.desk

pub returns-in-None-clause-back : goal.returns-in-None-clause-back
returns-in-None-clause-back g c = leaves-none c.args.self.now.desk c.args.name c.in-None.is

pub returns-in-Some-clause-desk : goal.returns-in-Some-clause-desk
returns-in-Some-clause-desk g c = keeps-some c.args.self.now.desk c.in-Some.desk c.push.new.self c.in-Some.is c.push.ensures.same

pub returns-in-Some-clause-enters : goal.returns-in-Some-clause-enters
returns-in-Some-clause-enters g c =
    enters-some c.args.self.now.desk c.in-Some.desk c.push.new.self c.in-Some.is c.args.name c.push.result c.push.ensures.enters

pub returns-in-Some-clause-back : goal.returns-in-Some-clause-back
returns-in-Some-clause-back g c =
    leaves-some c.args.self.now.desk c.in-Some.desk c.push.new.self c.in-Some.is c.args.name c.push.result c.push.ensures.back
