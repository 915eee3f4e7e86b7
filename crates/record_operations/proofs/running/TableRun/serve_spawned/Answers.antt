use Rattle.std.proofs.Common.{◌≡◌, true, [], refl, sym, ap, ◌∙◌, subst}
use Rattle.std.proofs.lemmas.Bool.{both_ways}
use Rattle.deck_relay.specs.Desks.{deck_in, post_in}
use Rattle.exec_recv.specs.Over.{IsOver}
use Rattle.line_rules.specs.PlanTerms.{has_ahead}
use Rattle.plan_kinds.specs.Runnable.{IsRunnable}
use Rattle.plan_shape.specs.Blueprint.{Blueprint}
use Rattle.record_operations.specs.Moves.{KeepsOperations, ServesAheads, WasTold}
use Rattle.record_operations.specs.Runs.{Run, run_of}
use Rattle.run_loop.specs.Loops.{deck_of}
use Rattle.record_operations.proofs.Holding.{deck-on}
use Rattle.record_operations.proofs.ServedSounding.{told-sound, told-keeps, told-serves, sound-keeping}
use Rattle.record_operations.proofs.running.TableRun.serve_spawned.Goals as goal

pub serve-requires-clause-keeping : goal.serve-requires-clause-keeping
serve-requires-clause-keeping g c κs within =
    let inside = c.self.inside in
    sound-keeping g.B.OnTable.is g.B.OnTable.claimed (run_of inside.table.now inside.plan.now inside.looped inside.operations.items inside.requested inside.futures)
    (g.T.Stepper.plan inside.stepper.now) inside.next c.self.invariant.sound

pub serve-requires-clause-over : goal.serve-requires-clause-over
serve-requires-clause-over g c κs within =
    let table = c.self.invariant.sound.table in
    subst (λ (p : Blueprint). IsOver c.self.inside.table.now p) (sym table.stepped_is) table.over

pub serve-requires-clause-kinds : goal.serve-requires-clause-kinds
serve-requires-clause-kinds g c κs within =
    let table = c.self.invariant.sound.table in
    subst (λ (p : Blueprint). IsRunnable p) (sym table.stepped_is) table.kinds

pub invariant_of-self : goal.invariant_of-self
invariant_of-self g c =
    let inside = c.self.inside in
    let spawns : inside.spawns ≡ true = c.if-not-self.false in
    record {
      sound = told-sound g.B.OnTable.is g.B.OnTable.claimed
          (run_of inside.table.now inside.plan.now inside.looped inside.operations.items inside.requested inside.futures)
          (g.T.Stepper.plan inside.stepper.now) inside.next c.self.invariant.sound c.serve.new.hand c.tell.new.looped.names c.tell.new.looped
          c.tell.ensures.rest c.serve.new.futures c.serve.ensures.serves (sym c.self.invariant.spawns_is ∙ spawns) c.serve.ensures.keeping;
      spawns_is = c.self.invariant.spawns_is;
      both = deck-on (deck_in g.B.OnTable.desk) (post_in g.B.OnTable.desk) (deck_of inside.looped) inside.post c.self.invariant.both (deck_of c.tell.new.looped)
          c.tell.ensures.deck;
    }

pub returns : goal.returns
returns g c =
    let inside = c.self.inside in
    let run = run_of inside.table.now inside.plan.now inside.looped inside.operations.items inside.requested inside.futures in
    record {
      keeps = subst (λ (r : Run). KeepsOperations r (record run { looped = c.tell.new.looped; futures = c.serve.new.futures })) c.self.view_is
          (told-keeps g.B.OnTable.is g.B.OnTable.claimed run (g.T.Stepper.plan inside.stepper.now) inside.next c.self.invariant.sound c.serve.new.hand c.tell.new.looped.names
          c.tell.new.looped c.tell.ensures.rest c.serve.new.futures c.serve.ensures.serves);
      serves = subst (λ (r : Run). ServesAheads r (record run { looped = c.tell.new.looped; futures = c.serve.new.futures })) c.self.view_is
          (told-serves run c.serve.new.hand c.tell.new.looped.names c.tell.new.looped c.tell.ensures.rest c.serve.new.futures
          (rw c.self.invariant.sound.table.stepped_is at c.serve.ensures.turned));
      told = subst (λ (r : Run). WasTold r (record run { looped = c.tell.new.looped; futures = c.serve.new.futures })) c.self.view_is
          (c.serve.new.posted.list.items, c.tell.ensures.tells);
    }

pub returns-then-not-self-clause-serves : goal.returns-then-not-self-clause-serves
returns-then-not-self-clause-serves g c ahead =
    absurd
    (both_ways c.self.inside.spawns c.if-not-self.true
    (c.self.invariant.spawns_is ∙ ap (λ (r : Run). has_ahead r.plan) c.self.view_is ∙ ahead))

pub returns-then-not-self-clause-told : goal.returns-then-not-self-clause-told
returns-then-not-self-clause-told g c = ([], refl)
