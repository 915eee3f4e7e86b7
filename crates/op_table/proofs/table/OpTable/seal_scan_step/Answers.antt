use Rattle.std.proofs.Common.{sym, ap, subst}
use Rattle.table_steps.specs.Views.{IsHandOf, Stays, knows}
use Rattle.table_steps.specs.ScanSeals.{CanSealScan, IsScanSealed}
use Rattle.op_table.proofs.Remembered.{remembers-still}
use Rattle.op_table.proofs.table.OpTable.seal_scan_step.Goals as goal

pub seal_scan_at-requires-clause-table : goal.seal_scan_at-requires-clause-table
seal_scan_at-requires-clause-table g c κs _ =
    subst (IsHandOf c.args.self.now) (sym c.hand.view_is) c.requires.table

pub seal_scan_at-requires-clause-needs : goal.seal_scan_at-requires-clause-needs
seal_scan_at-requires-clause-needs g c κs _ =
    subst (λ s. CanSealScan c.args.self.now.frame (knows s) c.args.source)
    (sym c.hand.view_is) c.requires.needs

pub invariant_of-hand : goal.invariant_of-hand
invariant_of-hand g c =
    let is = c.seal_scan_at.ensures.sealed.me_is in
    remembers-still c.hand.invariant c.seal_scan_at.ensures.stays.same.0
    (ap (λ m. m.0.owed) is, ap (λ m. m.0.runs) is)

pub returns-clause-stays : goal.returns-clause-stays
returns-clause-stays g c =
    subst (λ s. Stays c.args.self.now s c.seal_scan_at.new.seat)
    c.hand.view_is c.seal_scan_at.ensures.stays

pub returns-clause-sealed : goal.returns-clause-sealed
returns-clause-sealed g c =
    subst (λ s. IsScanSealed c.args.self.now c.args.source s c.seal_scan_at.new.seat)
    c.hand.view_is c.seal_scan_at.ensures.sealed
