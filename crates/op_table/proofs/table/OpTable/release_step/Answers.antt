use Rattle.std.proofs.Common.{sym, ap, subst}
use Rattle.table_steps.specs.Views.{IsHandOf, Stays}
use Rattle.table_steps.specs.Releases.{CanReleaseBlock}
use Rattle.table_steps.specs.Steps.{Released}
use Rattle.op_table.proofs.Remembered.{remembers-still}
use Rattle.op_table.proofs.table.OpTable.release_step.Goals as goal

pub release_at-requires-clause-table : goal.release_at-requires-clause-table
release_at-requires-clause-table g c κs _ =
    subst (IsHandOf c.args.self.now) (sym c.hand.view_is) c.requires.table

pub release_at-requires-clause-needs : goal.release_at-requires-clause-needs
release_at-requires-clause-needs g c κs _ =
    subst (λ s. CanReleaseBlock c.args.self.now.frame c.args.block.index c.args.block.generation
    s.me)
    (sym c.hand.view_is) c.requires.needs

pub invariant_of-hand : goal.invariant_of-hand
invariant_of-hand g c =
    let is = c.release_at.ensures.released.did.me_is in
    remembers-still c.hand.invariant c.release_at.ensures.stays.same.0
    (ap (λ m. m.0.owed) is, ap (λ m. m.0.runs) is)

pub returns-clause-stays : goal.returns-clause-stays
returns-clause-stays g c =
    subst (λ s. Stays c.args.self.now s c.release_at.new.seat)
    c.hand.view_is c.release_at.ensures.stays

pub returns-clause-released : goal.returns-clause-released
returns-clause-released g c =
    subst (λ s. Released c.args.self.now c.args.block.index c.args.block.generation s
    c.release_at.new.seat)
    c.hand.view_is c.release_at.ensures.released
