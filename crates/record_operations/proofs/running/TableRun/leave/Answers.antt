use Rattle.std.proofs.Common.{◌≡◌, inr, ◌<◌, length, sym, ap, subst}
use Rattle.deck_relay.specs.Desks.{deck_in, post_in}
use Rattle.record_operations.specs.Moves.{KeepsRun, LeavesNone, LeavesRun}
use Rattle.record_operations.specs.Runs.{Run, run_of}
use Rattle.record_operations.proofs.Associated.{collected-has, incomplete, looked-keeps}
use Rattle.record_operations.proofs.Changed.{shown-block, block-listed, left-by, has-left-sound, has-left-run}
use Rattle.run_loop.specs.declared.looped.Loop.{Loop as Looped}
use Rattle.run_loop.specs.Loops.{deck_of}
use Rattle.record_operations.proofs.Holding.{deck-on}
use Rattle.record_operations.proofs.Sounding.{turned-sound}
use Rattle.record_operations.proofs.ServedSounding.{looked-same}
use Rattle.record_operations.proofs.running.TableRun.leave.Goals as goal

pub collect-requires-clause-listed : goal.collect-requires-clause-listed
collect-requires-clause-listed g c =
    let inside = c.self.inside in
    let run = run_of inside.table.now inside.plan.now inside.looped inside.operations.items inside.requested inside.futures in
    let lent : c.deref.result.now ≡ inside.operations.items = cc in
    block-listed g.B.OnTable.is g.B.OnTable.claimed run (g.T.Stepper.plan inside.stepper.now) inside.next c.self.invariant.sound c.args.ticket c.in_ok-block.block
    (shown-block c.deref.result.now inside.operations.items c.args.ticket c.block_of.result c.in_ok-block.block lent c.block_of.ensures
    c.in_ok-block.was)

pub invariant_of-self : goal.invariant_of-self
invariant_of-self g c =
    let inside = c.self.inside in
    record {
      sound = turned-sound g.B.OnTable.is g.B.OnTable.claimed
          (run_of inside.table.now inside.plan.now inside.looped inside.operations.items inside.requested inside.futures)
          (g.T.Stepper.plan inside.stepper.now) inside.next c.self.invariant.sound c.collect.new.self c.in_default.ensures.ready
          (ap (λ (l : Looped). l.tally) c.in_default.ensures.none.rest)
          (looked-same inside.table.now c.in_ok-block.block inside.looped.hand.me c.collect.new.self.hand.me c.in_default.ensures.none.read);
      spawns_is = c.self.invariant.spawns_is;
      both = deck-on (deck_in g.B.OnTable.desk) (post_in g.B.OnTable.desk) (deck_of inside.looped) inside.post c.self.invariant.both (deck_of c.collect.new.self)
          c.in_default.ensures.deck;
    }

pub invariant_of-self-2 : goal.invariant_of-self-2
invariant_of-self-2 g c =
    let inside = c.self.inside in
    let run = run_of inside.table.now inside.plan.now inside.looped inside.operations.items inside.requested inside.futures in
    let lent : c.deref.result.now ≡ inside.operations.items = cc in
    let within = subst (λ (r : Run). c.args.ticket < length r.operations) (sym c.self.view_is) c.requires.within in
    record {
      sound = has-left-sound g.B.OnTable.is g.B.OnTable.claimed run (g.T.Stepper.plan inside.stepper.now) inside.next c.self.invariant.sound c.args.ticket
          c.in-Some.collected
          (left-by run c.args.ticket c.in-Some.collected within c.take-left.result c.take-left.ensures.operation c.in_ok-block.block
          (shown-block c.deref.result.now inside.operations.items c.args.ticket c.block_of.result c.in_ok-block.block lent c.block_of.ensures
          c.in_ok-block.was)
          c.collect.new.self c.in-Some.ensures.ready c.in-Some.ensures.collected c.disassociate.new.hand c.disassociate.ensures.stays.hand
          c.disassociate.ensures.left c.take-left.new.operations.items c.take-left.ensures.items);
      spawns_is = c.self.invariant.spawns_is;
      both = deck-on (deck_in g.B.OnTable.desk) (post_in g.B.OnTable.desk) (deck_of inside.looped) inside.post c.self.invariant.both (deck_of c.collect.new.self)
          c.in-Some.ensures.deck;
    }

pub returns-clause-leaves : goal.returns-clause-leaves
returns-clause-leaves g c =
    let inside = c.self.inside in
    let run = run_of inside.table.now inside.plan.now inside.looped inside.operations.items inside.requested inside.futures in
    let lent : c.deref.result.now ≡ inside.operations.items = cc in
    let within = subst (λ (r : Run). c.args.ticket < length r.operations) (sym c.self.view_is) c.requires.within in
    let left : Run =
    record run { looped = record c.collect.new.self { hand = c.disassociate.new.hand }; operations = c.take-left.new.operations.items } in
    subst (λ (r : Run). LeavesRun r left c.args.ticket c.in-Some.collected.completion) c.self.view_is
    (has-left-run g.B.OnTable.is g.B.OnTable.claimed run (g.T.Stepper.plan inside.stepper.now) inside.next c.self.invariant.sound c.args.ticket
    c.in-Some.collected
    (left-by run c.args.ticket c.in-Some.collected within c.take-left.result c.take-left.ensures.operation c.in_ok-block.block
    (shown-block c.deref.result.now inside.operations.items c.args.ticket c.block_of.result c.in_ok-block.block lent c.block_of.ensures
    c.in_ok-block.was)
    c.collect.new.self c.in-Some.ensures.ready c.in-Some.ensures.collected c.disassociate.new.hand
    c.disassociate.ensures.stays.hand c.disassociate.ensures.left c.take-left.new.operations.items c.take-left.ensures.items))

pub disassociate-requires-clause-has : goal.disassociate-requires-clause-has
disassociate-requires-clause-has g c κs =
    let inside = c.self.inside in
    let within = subst (λ (r : Run). c.args.ticket < length r.operations) (sym c.self.view_is) c.requires.within in
    collected-has g.B.OnTable.is g.B.OnTable.claimed
    (run_of inside.table.now inside.plan.now inside.looped inside.operations.items inside.requested inside.futures)
    (g.T.Stepper.plan inside.stepper.now) inside.next c.self.invariant.sound c.args.ticket within c.take-left.result c.take-left.ensures.operation
    c.in_ok-block.block c.collect.new.self c.in-Some.collected c.in-Some.ensures.collected

pub returns-in_default-clause-none : goal.returns-in_default-clause-none
returns-in_default-clause-none g c =
    let inside = c.self.inside in
    let run = run_of inside.table.now inside.plan.now inside.looped inside.operations.items inside.requested inside.futures in
    let lent : c.deref.result.now ≡ inside.operations.items = cc in
    let looked : Run = record run { looped = c.collect.new.self } in
    subst (λ (r : Run). LeavesNone r looked c.args.ticket) c.self.view_is
    (inr
    (incomplete run c.args.ticket c.in_ok-block.block c.collect.new.self c.in_default.ensures.none.read
    (shown-block c.deref.result.now inside.operations.items c.args.ticket c.block_of.result c.in_ok-block.block lent c.block_of.ensures
    c.in_ok-block.was)))

pub returns-in_default-clause-leaves : goal.returns-in_default-clause-leaves
returns-in_default-clause-leaves g c =
    let inside = c.self.inside in
    let run = run_of inside.table.now inside.plan.now inside.looped inside.operations.items inside.requested inside.futures in
    subst (λ (r : Run). KeepsRun r (record run { looped = c.collect.new.self })) c.self.view_is
    (looked-keeps run c.args.ticket c.in_ok-block.block c.collect.new.self c.in_default.ensures.none.read
    (ap (λ (l : Looped). l.tally) c.in_default.ensures.none.rest))
