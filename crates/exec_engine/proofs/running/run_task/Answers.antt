use Rattle.std.proofs.Common.{◌≤◌, refl, sym, subst}
use Rattle.std.specs.Prelude.{Ok}
use Rattle.plan_reader.specs.declared.fault.PlanFault.{PlanFault}
use Rattle.plan_shape.specs.Blueprint.{Blueprint}
use Rattle.whole_run.specs.Endings.{streams}
use Rattle.exec_status.specs.Files.{ReadsShelf}
use Rattle.exec_status.specs.Noted.{Concludes}
use Rattle.exec_engine.specs.Surroundings.{surroundings}
use Rattle.exec_engine.proofs.ClosesLaws.{takes-ordered}
use Rattle.exec_engine.proofs.EndsLaws.{run-ends, missed-ends}
use Rattle.exec_engine.proofs.running.run_task.Goals as goal

pub returns-in-Err : goal.returns-in-Err
returns-in-Err g c =
    let told = g.S.RecordSource.told c.args.system.now.records in
    let reads = g.S.RecordSource.reads c.args.system.now.records in
    let out = g.K.Sink.told c.args.system.now.out in
    missed-ends c.args.task
    (surroundings (g.F.Shelf.told c.args.system.now.shelf) told reads out (g.N.Sink.told c.args.system.now.notes))
    (surroundings (g.F.Shelf.told c.open_plan.new.shelf) told reads out (g.N.Sink.told c.give_up.new.notes))
    c.args.tally.now c.in-Err.fault c.give_up.result (record { untouched = record { source_same = refl; sink_same = refl }; unread = refl }) c.requires.new
    c.in-Err.ensures.fault c.give_up.ensures.gives_up c.in-Err.ensures.reads c.give_up.ensures.later

pub returns-in-Ok : goal.returns-in-Ok
returns-in-Ok g c =
    let told = g.S.RecordSource.told in
    let reads = g.S.RecordSource.reads in
    let out = g.K.Sink.told in
    let shelf = g.F.Shelf.told in
    let notes = g.N.Sink.told in
    let system = c.args.system.now in
    let ran = c.run_plan-answer in
    let left = ran.new.system in
    let took = c.take in
    let ordered = takes-ordered c.args.task ran.result c.args.tally.now took.new.self ran.ensures.ordered c.requires.new
    took.ensures.closing took.ensures.given took.ensures.same in
    let concludes = subst (λ said. Concludes took.result (notes said) (notes c.conclude.new.notes) c.conclude.result) ran.ensures.notes c.conclude.ensures.concludes in
    run-ends c.args.task
    (surroundings (shelf system.shelf) (told system.records) (reads system.records) (out system.out) (notes system.notes))
    (surroundings (shelf left.shelf) (told left.records) (reads left.records) (out left.out) (notes c.conclude.new.notes))
    took.new.self took.result c.conclude.result ordered c.in-Ok.ensures.plan
    (ran.ensures.runs c.args.tally.now took.new.self took.result
    (record {
      before = c.requires.new;
      collected = took.ensures.collected;
      closing = took.ensures.closing;
      status_is = took.ensures.status;
      same = took.ensures.same;
      no_memory = took.ensures.no_memory;
    }))
    concludes
    (subst (λ kept. ReadsShelf {T = Blueprint} {C = PlanFault} c.args.task.plan.now (shelf system.shelf) (shelf kept) (Ok c.in-Ok.plan)) (sym ran.ensures.shelf) c.in-Ok.ensures.reads)
    (subst (λ said. (notes said).faults ≤ (notes c.conclude.new.notes).faults) ran.ensures.notes c.conclude.ensures.later)
