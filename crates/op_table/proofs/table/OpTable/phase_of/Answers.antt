use Rattle.std.proofs.Common.{sym, ap, subst}
use Rattle.table_steps.specs.Views.{IsHandOf, Stays, knows}
use Rattle.table_steps.specs.Readings.{Holds, IsPhaseAs}
use Rattle.op_table.proofs.Remembered.{remembers-still}
use Rattle.op_table.proofs.table.OpTable.phase_of.Goals as goal

pub read_phase-requires-clause-table : goal.read_phase-requires-clause-table
read_phase-requires-clause-table g c κs _ =
    subst (IsHandOf c.args.self.now) (sym c.hand.view_is) c.requires.table

pub read_phase-requires-clause-holds : goal.read_phase-requires-clause-holds
read_phase-requires-clause-holds g c κs _ =
    subst (λ s. Holds (knows s) c.args.name) (sym c.hand.view_is) c.requires.holds

pub invariant_of-hand : goal.invariant_of-hand
invariant_of-hand g c =
    let is = c.read_phase.ensures.phase.2 in
    remembers-still c.hand.invariant c.read_phase.ensures.stays.same.0
    (ap (λ m. m.0.owed) is, ap (λ m. m.0.runs) is)

pub returns-clause-stays : goal.returns-clause-stays
returns-clause-stays g c =
    subst (λ s. Stays c.args.self.now s c.read_phase.new.seat)
    c.hand.view_is c.read_phase.ensures.stays

pub returns-clause-phase : goal.returns-clause-phase
returns-clause-phase g c =
    subst (λ s. IsPhaseAs c.args.self.now.frame c.args.name c.read_phase.result s.me
    c.read_phase.new.seat.me)
    c.hand.view_is c.read_phase.ensures.phase
