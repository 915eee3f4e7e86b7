use Rattle.std.proofs.Common.{subst}
use Rattle.std.specs.Prelude.{IfErr}
use Rattle.plan_shape.specs.Blueprint.{Blueprint}
use Rattle.table_steps.specs.Views.{Board}
use Rattle.run_loop.specs.Starts.{FindsNoBlock}
use Rattle.exec_recv.proofs.Sites.{over-site}
use Rattle.record_operations.proofs.entering.start.Goals as goal

pub start-requires-clause-ready : goal.start-requires-clause-ready
start-requires-clause-ready g c κs within = rw c.of.ensures c.requires.ready

pub start-requires-clause-site : goal.start-requires-clause-site
start-requires-clause-site g c κs within =
    rw c.of.ensures (over-site c.args.table.now (g.T.Stepper.plan c.args.stepper.now) c.requires.over c.requires.kinds)

pub start-requires-clause-start : goal.start-requires-clause-start
start-requires-clause-start g c κs within = rw c.of.ensures c.requires.start

pub returns-clause-ready : goal.returns-clause-ready
returns-clause-ready g c = rw c.of.ensures at c.start.ensures.ready

pub returns-clause-started : goal.returns-clause-started
returns-clause-started g c = rw c.of.ensures at c.start.ensures.started

pub returns-clause-none : goal.returns-clause-none
returns-clause-none g c =
    subst (λ (board : Board Blueprint). IfErr c.start.result (λ _. FindsNoBlock board c.args.looped.now c.start.new.self)) c.of.ensures
    c.start.ensures.none
