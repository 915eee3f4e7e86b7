use Rattle.std.proofs.Common.{Option, List, refl, ap}
use Rattle.exec_io.specs.Views.{SourceView}
use Rattle.plan_rules.specs.declared.settings.Settings.{Settings}
use Rattle.record_loop.specs.Generated.{steady_view}
use Rattle.record_loop.specs.ReadStarts.{ReadStart}
use Rattle.whole_run.specs.Endings.{streams}
use Rattle.exec_engine.proofs.ClosesLaws.{source-runs, generated-runs}
use Rattle.exec_engine.proofs.running.run_plan.Goals as goal

pub returns-in-Source-clause-runs : goal.returns-in-Source-clause-runs
returns-in-Source-clause-runs g c old new status took =
    let told = g.S.RecordSource.told in
    let reads = g.S.RecordSource.reads in
    let out = g.K.Sink.told in
    let system = c.args.system.now in
    let ran = c.run_lines in
    source-runs c.args.plan.now c.args.task c.at_once-window.result c.at_once-window.ensures old new status
    (streams (told system.records) (reads system.records) (out system.out))
    (streams (told ran.new.records) (reads ran.new.records) (out ran.new.out))
    c.in-Source.form ran.result c.in-Source.is took ran.ensures.ends ran.ensures.closed ran.ensures.unbegun

pub returns-in-Ok-clause-runs : goal.returns-in-Ok-clause-runs
returns-in-Ok-clause-runs g c old new status took =
    let told : SourceView = g.S.RecordSource.told c.args.system.now.records in
    let reads : Option (List ReadStart) = g.S.RecordSource.reads c.args.system.now.records in
    let out = g.K.Sink.told in
    let ran = c.run_lines-in-Ok in
    generated-runs c.args.plan.now c.args.task c.at_once-window.result c.at_once-window.ensures old new status
    told reads
    (streams _ _ (out c.args.system.now.out))
    (streams _ _ (out ran.new.out))
    c.settings.result.now.input c.in-Generated.count ran.result (ap (λ (s : Settings). s.input) c.settings.ensures) c.in-Generated.is took
    (record { lines = c.new.ensures.lines; within = c.new.ensures.within })
    (ap steady_view c.in-Ok.ensures.text) refl ran.ensures.ends ran.ensures.closed ran.ensures.unbegun
