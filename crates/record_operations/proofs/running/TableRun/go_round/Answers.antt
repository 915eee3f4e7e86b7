use Rattle.std.proofs.Common.{refl, sym, ap, subst}
use Rattle.deck_relay.specs.Desks.{deck_in, post_in}
use Rattle.exec_recv.specs.Asides.{Aside}
use Rattle.exec_recv.specs.Over.{IsOver}
use Rattle.plan_kinds.specs.Runnable.{IsRunnable}
use Rattle.plan_shape.specs.Blueprint.{Blueprint}
use Rattle.run_loop.specs.Loops.{deck_of}
use Rattle.run_loop.specs.Turns.{MeetsEach}
use Rattle.record_operations.specs.Drained.{TakesLearned}
use Rattle.record_operations.specs.Moves.{KeepsRun}
use Rattle.record_operations.specs.Runs.{Run, run_of}
use Rattle.record_operations.proofs.Holding.{both-on}
use Rattle.record_operations.proofs.Sounding.{turned-sound}
use Rattle.record_operations.proofs.running.TableRun.go_round.Goals as goal

pub invariant_of-self : goal.invariant_of-self
invariant_of-self g c =
    let inside = c.self.inside in
    let held = c.self.invariant in
    let went = c.go_once-taken in
    record {
      sound = turned-sound g.B.OnTable.is g.B.OnTable.claimed
          (run_of inside.table.now inside.plan.now inside.looped inside.operations.items inside.requested inside.futures)
          (g.T.Stepper.plan inside.stepper.now) inside.next held.sound went.new.looped went.ensures.ready went.ensures.counts.tally
          (record { is = went.ensures.aside.same; sees = went.ensures.aside.sees });
      spawns_is = held.spawns_is;
      both = both-on (deck_in g.B.OnTable.desk) (post_in g.B.OnTable.desk) (deck_of inside.looped) inside.post held.both (deck_of went.new.looped) went.new.post
          went.ensures.both;
    }

pub returns-clause-met : goal.returns-clause-met
returns-clause-met g c =
    subst (λ (r : Run). MeetsEach g.T.Stepper.does r.board r.looped c.go_once-taken.new.looped) c.self.view_is
    c.go_once-taken.ensures.met

pub returns-clause-served : goal.returns-clause-served
returns-clause-served g c =
    let went = c.go_once-taken in (
      went.result,
      subst (λ (r : Run). TakesLearned g.T.Stepper.does r.board went.result r.looped went.new.looped) c.self.view_is went.ensures.served,
    )

pub go_once-taken-requires-clause-over : goal.go_once-taken-requires-clause-over
go_once-taken-requires-clause-over g c κs within =
    let table = c.self.invariant.sound.table in
    subst (λ (p : Blueprint). IsOver c.self.inside.table.now p) (sym table.stepped_is) table.over

pub go_once-taken-requires-clause-kinds : goal.go_once-taken-requires-clause-kinds
go_once-taken-requires-clause-kinds g c κs within =
    let table = c.self.invariant.sound.table in
    subst (λ (p : Blueprint). IsRunnable p) (sym table.stepped_is) table.kinds

pub returns-clause-keeps : goal.returns-clause-keeps
returns-clause-keeps g c =
    let inside = c.self.inside in
    let went = c.go_once-taken in
    let run = run_of inside.table.now inside.plan.now inside.looped inside.operations.items inside.requested inside.futures in
    subst (λ (r : Run). KeepsRun r (record run { looped = went.new.looped })) c.self.view_is
    (record {
      board = refl;
      plan = refl;
      operations = refl;
      requested = refl;
      tally = went.ensures.counts.tally;
      noted = ap (λ (a : Aside). a.noted) went.ensures.aside.same;
    })
