use Rattle.deck_relay.specs.Desks.{desk-on}
use Rattle.steal_pool.proofs.worker_mail.WorkerMail.take_beside.Goals as goal

pub loop-beside-preserved : goal.loop-beside-preserved
loop-beside-preserved g c =
    let here = c.loop-beside.self.desk in
    let took = c.take.new.self.desk in
    let gave = c.give_backend-kept.new.self.desk in
    desk-on c.args.self.now.desk here gave c.loop-beside.invariant
    (desk-on here took gave c.take.ensures c.give_backend-kept.ensures.desk)

pub returns-in_default : goal.returns-in_default
returns-in_default g c =
    desk-on c.args.self.now.desk c.loop-beside.self.desk c.take.new.self.desk c.loop-beside.invariant
    c.take.ensures
