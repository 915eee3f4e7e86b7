use Rattle.std.proofs.Common.{sym, subst}
use Rattle.table_steps.specs.Views.{IsHandOf, Stays, knows}
use Rattle.table_steps.specs.Reports.{CanReport, IsReportedAs}
use Rattle.op_table.proofs.Remembered.{alike-reported, remembers-still}
use Rattle.op_table.proofs.table.OpTable.report.Goals as goal

pub report_to-requires-clause-table : goal.report_to-requires-clause-table
report_to-requires-clause-table g c κs _ =
    subst (IsHandOf c.args.self.now) (sym c.hand.view_is) c.requires.table

pub report_to-requires-clause-needs : goal.report_to-requires-clause-needs
report_to-requires-clause-needs g c κs _ =
    subst (λ s. CanReport c.args.self.now.frame.tree (knows s) c.args.name)
    (sym c.hand.view_is) c.requires.needs

pub invariant_of-hand : goal.invariant_of-hand
invariant_of-hand g c =
    remembers-still c.hand.invariant c.report_to.ensures.stays.same.0
    (alike-reported g.P.Cargo c.args.self.now.frame c.args.name c.report_to.result
    c.hand.inside.seat.me
    c.report_to.new.seat.me c.report_to.ensures.reported)

pub returns-clause-stays : goal.returns-clause-stays
returns-clause-stays g c =
    subst (λ s. Stays c.args.self.now s c.report_to.new.seat)
    c.hand.view_is c.report_to.ensures.stays

pub returns-clause-reported : goal.returns-clause-reported
returns-clause-reported g c =
    subst (λ s. IsReportedAs g.P.Cargo c.args.self.now.frame c.args.name c.report_to.result s.me
    c.report_to.new.seat.me)
    c.hand.view_is c.report_to.ensures.reported
