use Rattle.std.proofs.Common.{sym, ap, subst}
use Rattle.table_steps.specs.Views.{IsHandOf, Stays, knows}
use Rattle.table_steps.specs.Requests.{MayRequest, IsAsked}
use Rattle.op_table.proofs.Remembered.{remembers-still}
use Rattle.op_table.proofs.table.OpTable.request_step.Goals as goal

pub request_at-requires-clause-table : goal.request_at-requires-clause-table
request_at-requires-clause-table g c κs _ =
    subst (IsHandOf c.args.self.now) (sym c.hand.view_is) c.requires.table

pub request_at-requires-clause-needs : goal.request_at-requires-clause-needs
request_at-requires-clause-needs g c κs _ =
    subst (λ s. MayRequest g.P.Cargo c.args.self.now.frame (knows s) c.args.source c.args.failure)
    (sym c.hand.view_is) c.requires.needs

pub invariant_of-hand : goal.invariant_of-hand
invariant_of-hand g c =
    let is = c.request_at.ensures.asked.me_is in
    remembers-still c.hand.invariant c.request_at.ensures.stays.same.0
    (ap (λ m. m.0.owed) is, ap (λ m. m.0.runs) is)

pub returns-clause-stays : goal.returns-clause-stays
returns-clause-stays g c =
    subst (λ s. Stays c.args.self.now s c.request_at.new.seat)
    c.hand.view_is c.request_at.ensures.stays

pub returns-clause-asked : goal.returns-clause-asked
returns-clause-asked g c =
    subst (λ s. IsAsked c.args.self.now c.args.source c.args.failure c.request_at.result s
    c.request_at.new.seat)
    c.hand.view_is c.request_at.ensures.asked
