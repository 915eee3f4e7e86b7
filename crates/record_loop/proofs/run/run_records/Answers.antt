use Rattle.record_loop.specs.Standing.{opened_by}
use Rattle.record_loop.proofs.OpeningLaws.{ready-taken}
use Rattle.record_loop.proofs.ReadingLaws.{Going-nil}
use Rattle.record_loop.proofs.run.run_records.Goals as goal

pub run-requires-clause-new : goal.run-requires-clause-new
run-requires-clause-new g c = λ κs lives.
    let work = g.O.Operations.state c.args.operations.now in
    let sink = g.K.Sink.told c.args.out.now in
    record {
      opening = opened_by work c.args.window c.args.form sink;
      taken = ready-taken g.O.Operations.WantsMemory c.args.window c.args.settings c.args.form work sink _ c.in_ok-session.ensures.session c.requires.settings_are c.requires.idle c.requires.may_run;
    }

pub returns-clause-ran : goal.returns-clause-ran
returns-clause-ran g c =
    let work = g.O.Operations.state c.args.operations.now in
    let sink = g.K.Sink.told c.args.out.now in
    c.run.ensures.ran (opened_by work c.args.window c.args.form sink)
    (ready-taken g.O.Operations.WantsMemory c.args.window c.args.settings c.args.form work sink _ c.in_ok-session.ensures.session c.requires.settings_are c.requires.idle c.requires.may_run)

pub returns-clause-reads : goal.returns-clause-reads
returns-clause-reads g c =
    let work = g.O.Operations.state c.args.operations.now in
    let sink = g.K.Sink.told c.args.out.now in
    let source = (g.S.RecordSource.told c.args.records.now).left in
    c.run.ensures.reads (opened_by work c.args.window c.args.form sink) source
    (Going-nil source (ready-taken g.O.Operations.WantsMemory c.args.window c.args.settings c.args.form work sink _ c.in_ok-session.ensures.session c.requires.settings_are c.requires.idle c.requires.may_run))
