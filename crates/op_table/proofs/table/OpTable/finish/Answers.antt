use Rattle.std.proofs.Common.{sym, subst}
use Rattle.table_steps.specs.Views.{aim_at, IsHandOf, Stays}
use Rattle.table_steps.specs.Finishes.{CanFinish}
use Rattle.table_steps.specs.Steps.{Finished}
use Rattle.op_table.proofs.Remembered.{alike-finished, remembers-still}
use Rattle.op_table.proofs.table.OpTable.finish.Goals as goal

pub finish_at-requires-clause-table : goal.finish_at-requires-clause-table
finish_at-requires-clause-table g c κs _ =
    subst (IsHandOf c.args.self.now) (sym c.hand.view_is) c.requires.table

pub finish_at-requires-clause-needs : goal.finish_at-requires-clause-needs
finish_at-requires-clause-needs g c κs _ =
    subst (λ s. CanFinish g.P.Cargo c.args.self.now.frame s.me c.args.name)
    (sym c.hand.view_is) c.requires.needs

pub invariant_of-hand : goal.invariant_of-hand
invariant_of-hand g c =
    remembers-still c.hand.invariant c.finish_at.ensures.stays.same.0
    (alike-finished g.P.Cargo (aim_at c.args.self.now c.args.name) _ _ _ c.hand.inside.seat.me
    c.finish_at.new.seat.me c.finish_at.ensures.finished.did)

pub returns-clause-stays : goal.returns-clause-stays
returns-clause-stays g c =
    subst (λ s. Stays c.args.self.now s c.finish_at.new.seat)
    c.hand.view_is c.finish_at.ensures.stays

pub returns-clause-finished : goal.returns-clause-finished
returns-clause-finished g c =
    subst (λ s. Finished c.args.self.now c.args.name s c.finish_at.new.seat g.P.Cargo)
    c.hand.view_is c.finish_at.ensures.finished
