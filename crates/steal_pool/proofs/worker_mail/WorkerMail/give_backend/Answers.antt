use Rattle.std.proofs.Common.{inl, subst}
use Rattle.std.specs.Prelude.{Option}
use Rattle.deck_relay.specs.declared.desk.Desk.{Desk}
use Rattle.deck_relay.specs.Desks.{KeepsDesk}
use Rattle.steal_pool.proofs.Kept.{keeps-same, then-deck}
use Rattle.steal_pool.proofs.worker_mail.WorkerMail.give_backend.Goals as goal

pub returns-in-Ok-clause-desk : goal.returns-in-Ok-clause-desk
returns-in-Ok-clause-desk g c = keeps-same c.args.self.now.desk c.submit_to_backend.new.self.desk c.submit_to_backend.ensures.desk

pub returns-in-Ok-clause-goes : goal.returns-in-Ok-clause-goes
returns-in-Ok-clause-goes g c = inl (c.submit_to_backend.ensures.desk, c.in-Ok.ensures.taken)

pub returns-in-Err-clause-desk : goal.returns-in-Err-clause-desk
returns-in-Err-clause-desk g c =
    subst (λ (d : Option Desk). KeepsDesk d c.push.new.self.desk) c.submit_to_backend.ensures.desk c.push.ensures.desk

pub returns-in-Err-clause-goes : goal.returns-in-Err-clause-goes
returns-in-Err-clause-goes g c =
    let push = c.push in
    then-deck c.args.name c.in-Err.back c.args.self.now.desk c.submit_to_backend.new.self.desk push.new.self.desk push.result
    c.in-Err.ensures.refused push.ensures.backend c.submit_to_backend.ensures.desk push.ensures.enters push.ensures.back
