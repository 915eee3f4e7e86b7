use Rattle.std.proofs.Common.{◌≡◌, ◌↔◌, ℕ, List, Option, None, refl, sym, ap, ◌∙◌, subst}
use Rattle.std.specs.Prelude.{Some, IfSome}
use Rattle.exec_io.specs.Outside.{Outside, outside}
use Rattle.exec_status.specs.declared.status.Status.{Status}
use Rattle.exec_status.specs.declared.status.Status.TheVariants.{Usage}
use Rattle.exec_words.specs.declared.command.Command.{Command}
use Rattle.trace_commands.specs.Answers.{Question, the_check, the_replay}
use Rattle.trace_commands.specs.Ends.{Ends}
use Rattle.trace_commands.specs.Says.{Says}
use Rattle.exec_engine.specs.Commands.{CommandEnds}
use Rattle.exec_engine.specs.Surroundings.{surroundings}
use Rattle.exec_engine.specs.Tasks.{IsBounded}
use Rattle.exec_engine.proofs.WordsLaws.{run-bounded, gen-bounded}
use Rattle.exec_engine.proofs.engine.run.Goals as goal

-- a command on a file ends with no fault of usage
ends-usage : (question : Question) (name : List ℕ) (old new : Outside) (status : Status) (said : Option Command) (command : Command) → said ≡ Some command → Ends question name old new status → (status ≡ Usage) ↔ (said ≡ None)
ends-usage question name old new status said command is ends =
    (λ e. absurd (subst (Says question name old new) e ends.says), λ none. absurd (let wrong : Some command ≡ None = sym is ∙ none in cc))

pub run_task-requires-clause-bounds : goal.run_task-requires-clause-bounds
run_task-requires-clause-bounds g c κs within =
    subst IsBounded (sym c.of_run-task.ensures) (run-bounded c.args.words.now c.in-Run.plan c.in-Run.options c.in-Run.summary
    (sym c.read_words.ensures ∙ c.in-Some.is ∙ ap (λ (command : Command). Some command) c.in-Run.is))

pub run_task-requires-in-Gen-clause-bounds : goal.run_task-requires-in-Gen-clause-bounds
run_task-requires-in-Gen-clause-bounds g c κs within =
    subst IsBounded (sym c.of_gen-task.ensures) (gen-bounded c.args.words.now c.in-Gen.plan c.in-Gen.count c.in-Gen.options
    (sym c.read_words.ensures ∙ c.in-Some.is ∙ ap (λ (command : Command). Some command) c.in-Gen.is))

pub returns-in-Replay-clause-usage : goal.returns-in-Replay-clause-usage
returns-in-Replay-clause-usage g c =
    let is = sym c.read_words.ensures ∙ c.in-Some.is ∙ ap (λ (command : Command). Some command) c.in-Replay.is in
    let told = g.S.RecordSource.told c.args.system.now.records in
    ends-usage the_replay c.in-Replay.file.now
    (outside (g.F.Shelf.told c.args.system.now.shelf) told (g.K.Sink.told c.args.system.now.out) (g.N.Sink.told c.args.system.now.notes))
    (outside (g.F.Shelf.told c.replay_file.new.shelf) told (g.K.Sink.told c.replay_file.new.out) (g.N.Sink.told c.replay_file.new.notes))
    c.replay_file.result _ _ is (c.replay_file.ensures told)

pub returns-in-Replay-clause-ends : goal.returns-in-Replay-clause-ends
returns-in-Replay-clause-ends g c =
    let is = sym c.read_words.ensures ∙ c.in-Some.is ∙ ap (λ (command : Command). Some command) c.in-Replay.is in
    let told = g.S.RecordSource.told c.args.system.now.records in
    let reads = g.S.RecordSource.reads c.args.system.now.records in
    let old = surroundings (g.F.Shelf.told c.args.system.now.shelf) told reads (g.K.Sink.told c.args.system.now.out) (g.N.Sink.told c.args.system.now.notes) in
    let new = surroundings (g.F.Shelf.told c.replay_file.new.shelf) told reads (g.K.Sink.told c.replay_file.new.out) (g.N.Sink.told c.replay_file.new.notes) in
    subst (λ (said : Option Command). IfSome said (CommandEnds old new c.new.result c.replay_file.result)) (sym is)
    (record { ends = c.replay_file.ensures told; unread = refl; uncounted = c.new.ensures })

pub returns-in-Check-clause-usage : goal.returns-in-Check-clause-usage
returns-in-Check-clause-usage g c =
    let is = sym c.read_words.ensures ∙ c.in-Some.is ∙ ap (λ (command : Command). Some command) c.in-Check.is in
    let told = g.S.RecordSource.told c.args.system.now.records in
    ends-usage the_check c.in-Check.file.now
    (outside (g.F.Shelf.told c.args.system.now.shelf) told (g.K.Sink.told c.args.system.now.out) (g.N.Sink.told c.args.system.now.notes))
    (outside (g.F.Shelf.told c.check_file.new.shelf) told (g.K.Sink.told c.check_file.new.out) (g.N.Sink.told c.check_file.new.notes))
    c.check_file.result _ _ is (c.check_file.ensures told)

pub returns-in-Check-clause-ends : goal.returns-in-Check-clause-ends
returns-in-Check-clause-ends g c =
    let is = sym c.read_words.ensures ∙ c.in-Some.is ∙ ap (λ (command : Command). Some command) c.in-Check.is in
    let told = g.S.RecordSource.told c.args.system.now.records in
    let reads = g.S.RecordSource.reads c.args.system.now.records in
    let old = surroundings (g.F.Shelf.told c.args.system.now.shelf) told reads (g.K.Sink.told c.args.system.now.out) (g.N.Sink.told c.args.system.now.notes) in
    let new = surroundings (g.F.Shelf.told c.check_file.new.shelf) told reads (g.K.Sink.told c.check_file.new.out) (g.N.Sink.told c.check_file.new.notes) in
    subst (λ (said : Option Command). IfSome said (CommandEnds old new c.new.result c.check_file.result)) (sym is)
    (record { ends = c.check_file.ensures told; unread = refl; uncounted = c.new.ensures })
