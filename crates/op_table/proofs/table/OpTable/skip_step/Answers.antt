use Rattle.std.proofs.Common.{◌<◌, sym, ap, ◌∙◌, subst}
use Rattle.table_steps.specs.Views.{IsHandOf, Stays, knows}
use Rattle.table_steps.specs.Skips.{CanSkip, IsSkipped}
use Rattle.op_table.proofs.Remembered.{alike-skipped, remembers-still}
use Rattle.op_table.proofs.table.OpTable.skip_step.Goals as goal

pub skip_at-requires-clause-table : goal.skip_at-requires-clause-table
skip_at-requires-clause-table g c κs _ =
    subst (IsHandOf c.args.self.now) (sym c.hand.view_is) c.requires.table

pub skip_at-requires-clause-block : goal.skip_at-requires-clause-block
skip_at-requires-clause-block g c κs _ =
    subst (λ x. x.block < c.args.self.now.frame.layout.blocks) (sym c.first_of-first.ensures)
    c.requires.block

pub skip_at-requires-clause-needs : goal.skip_at-requires-clause-needs
skip_at-requires-clause-needs g c κs _ =
    subst (λ s. CanSkip c.args.self.now.frame.tree (knows s) c.first_of-first.result.block)
    (sym c.hand.view_is)
    (subst (λ x. CanSkip c.args.self.now.frame.tree (knows c.args.hand.now) x.block)
    (sym c.first_of-first.ensures) c.requires.needs)

pub invariant_of-hand : goal.invariant_of-hand
invariant_of-hand g c =
    let is = c.skip_at.ensures.skipped.me_is in
    let same = alike-skipped c.args.self.now.frame.tree c.first_of-first.result.block
    c.skip_at.ensures.skipped.word c.hand.inside.seat.me.0 in
    remembers-still c.hand.invariant c.skip_at.ensures.stays.same.0
    (ap (λ m. m.0.owed) is ∙ same.0, ap (λ m. m.0.runs) is ∙ same.1)

pub returns-clause-stays : goal.returns-clause-stays
returns-clause-stays g c =
    subst (λ s. Stays c.args.self.now s c.skip_at.new.seat) c.hand.view_is c.skip_at.ensures.stays

pub returns-clause-skipped : goal.returns-clause-skipped
returns-clause-skipped g c =
    subst (λ s. IsSkipped c.args.self.now c.args.block c.skip_at.result s c.skip_at.new.seat)
    c.hand.view_is
    (subst (λ x. IsSkipped c.args.self.now x.block c.skip_at.result c.hand.inside.seat
    c.skip_at.new.seat)
    c.first_of-first.ensures c.skip_at.ensures.skipped)
