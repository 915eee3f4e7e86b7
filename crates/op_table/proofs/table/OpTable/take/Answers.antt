use Rattle.std.proofs.Common.{sym, subst}
use Rattle.table_steps.specs.Views.{IsHandOf, Stays, knows}
use Rattle.table_steps.specs.Takes.{MayServe, IsTaken, IsTakenOn}
use Rattle.op_table.proofs.Remembered.{alike-taken, remembers-still}
use Rattle.op_table.proofs.table.OpTable.take.Goals as goal

pub take_at-requires-clause-table : goal.take_at-requires-clause-table
take_at-requires-clause-table g c κs _ =
    subst (IsHandOf c.args.self.now) (sym c.hand.view_is) c.requires.table

pub take_at-requires-clause-serves : goal.take_at-requires-clause-serves
take_at-requires-clause-serves g c κs _ =
    subst (λ s. MayServe c.rests_in.result (knows s))
    (sym c.hand.view_is)
    (subst (λ from. MayServe from (knows c.args.hand.now))
    (sym c.rests_in.ensures) c.requires.serves)

pub invariant_of-hand : goal.invariant_of-hand
invariant_of-hand g c =
    remembers-still c.hand.invariant c.take_at.ensures.stays.same.0
    (alike-taken g.P.Cargo c.args.self.now.frame c.args.name c.rests_in.result c.take_at.result
    c.hand.inside.seat.me c.take_at.new.seat.me c.take_at.ensures.taken)

pub returns-clause-stays : goal.returns-clause-stays
returns-clause-stays g c =
    subst (λ s. Stays c.args.self.now s c.take_at.new.seat) c.hand.view_is c.take_at.ensures.stays

pub returns-clause-taken : goal.returns-clause-taken
returns-clause-taken g c =
    subst (λ s. IsTakenOn g.P.Cargo c.args.self.now.frame c.args.name c.args.on c.take_at.result
    s.me c.take_at.new.seat.me)
    c.hand.view_is
    (subst (λ from. IsTaken g.P.Cargo c.args.self.now.frame c.args.name from c.take_at.result
    c.hand.inside.seat.me c.take_at.new.seat.me)
    c.rests_in.ensures c.take_at.ensures.taken)
