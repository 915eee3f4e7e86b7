use Rattle.std.proofs.Common.{sym, ap, ◌∙◌, subst}
use Rattle.table_steps.specs.Views.{IsHandOf, Stays, knows}
use Rattle.table_steps.specs.Runs.{CanRun, HasRun, HasPassed, IsRun}
use Rattle.table_kept.proofs.Remembering.{IsLaid, place-here}
use Rattle.table_stop_kept.proofs.Run.Remembered.{run-of_block, remembers-run}
use Rattle.table_stop_kept.proofs.Run.Told.{unrun-named}
use Rattle.op_table.proofs.Remembered.{remembers-still}
use Rattle.op_table.proofs.table.OpTable.run_step.Goals as goal

pub run_at-requires-clause-table : goal.run_at-requires-clause-table
run_at-requires-clause-table g c κs _ =
    subst (IsHandOf c.args.self.now) (sym c.hand.view_is) c.requires.table

pub run_at-requires-clause-needs : goal.run_at-requires-clause-needs
run_at-requires-clause-needs g c κs _ =
    subst (λ s. CanRun c.args.self.now.frame.tree (knows s) c.args.source c.args.block c.args.node)
    (sym c.hand.view_is) c.requires.needs

pub insert-requires-clause-place : goal.insert-requires-clause-place
insert-requires-clause-place g c =
    place-here c.hand.invariant.runs c.args.self.now
    (subst IsLaid c.self.view_is (record { words = c.self.invariant.2; slots = c.self.invariant.3 }))
    (ap (λ s. s.table_id) c.hand.view_is ∙ c.requires.table.table_is) c.in_ok-name.name c.in_ok-name.ensures.place

pub insert-requires-clause-generation : goal.insert-requires-clause-generation
insert-requires-clause-generation g c =
    run-of_block c.hand.inside.seat c.hand.inside.owed c.hand.inside.runs c.hand.invariant c.in_ok-name.name
    c.in_ok-name.ensures.run.of_scan.beside_it

pub invariant_of-hand-2 : goal.invariant_of-hand-2
invariant_of-hand-2 g c =
    let name = c.in_ok-name.name in
    let ran = c.in_ok-name.ensures.run in
    let can = subst (λ s. CanRun c.args.self.now.frame.tree s.me.0 c.args.source c.args.block c.args.node) (sym c.hand.view_is) c.requires.needs in
    remembers-run c.hand.inside.seat c.hand.inside.owed c.hand.inside.runs c.hand.invariant c.run_at.new.seat
    c.insert.new.self c.run_at.ensures.stays.same.0 c.insert.ensures.layout (ap (λ m. m.0.owed) ran.me_is) name
    (ap (λ m. m.0.runs) ran.me_is)
    (unrun-named c.args.block c.args.node _ name c.hand.inside.seat.me.0.runs ran.name_is can.unrun)
    c.insert.ensures.has

pub invariant_of-hand : goal.invariant_of-hand
invariant_of-hand g c =
    let is = c.in_err-name.ensures.run.me_is in
    remembers-still c.hand.invariant c.run_at.ensures.stays.same.0
    (ap (λ m. m.0.owed) is, ap (λ m. m.0.runs) is)

pub returns-clause-stays : goal.returns-clause-stays
returns-clause-stays g c =
    subst (λ s. Stays c.args.self.now s c.run_at.new.seat) c.hand.view_is c.run_at.ensures.stays

pub returns-clause-run : goal.returns-clause-run
returns-clause-run g c =
    subst (λ s. HasRun c.args.self.now c.args.source c.args.block c.args.node c.in_ok-name.name s
    c.run_at.new.seat)
    c.hand.view_is c.in_ok-name.ensures.run

pub returns-in_err-name-clause-stays : goal.returns-in_err-name-clause-stays
returns-in_err-name-clause-stays g c =
    subst (λ s. Stays c.args.self.now s c.run_at.new.seat) c.hand.view_is c.run_at.ensures.stays

pub returns-in_err-name-clause-run : goal.returns-in_err-name-clause-run
returns-in_err-name-clause-run g c =
    let passed = subst (λ s. HasPassed c.args.self.now c.args.source c.args.block c.args.node s
    c.run_at.new.seat)
    c.hand.view_is c.in_err-name.ensures.run in
    subst (λ answer. IsRun c.args.self.now c.args.source c.args.block c.args.node answer
    c.args.hand.now c.run_at.new.seat)
    (sym c.from_residual.ensures) passed
