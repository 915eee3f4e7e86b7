use Rattle.std.proofs.Common.{◌≡◌, ℕ, ◌+◌, get_or, sym, ap, ◌∙◌, subst, arith}
use Rattle.std.specs.Prelude.{Option, None}
use Rattle.atomic_table.specs.declared.shared.Seat.{Seat}
use Rattle.deck_relay.specs.Desks.{deck_in, post_in}
use Rattle.home_items.specs.declared.entry.Entry.{Entry}
use Rattle.home_items.specs.declared.item.Item.{Item}
use Rattle.table_rules.specs.declared.view.View.{View}
use Rattle.table_steps.specs.Views.{knows}
use Rattle.spawn_future.specs.Slots.{kept_in}
use Rattle.run_loop.specs.Loops.{deck_of}
use Rattle.record_operations.specs.Ends.{IsEnded}
use Rattle.record_operations.specs.Owns.{KeepsBoth}
use Rattle.record_operations.specs.Moves.{Clears}
use Rattle.record_operations.specs.Runs.{Run, begun_by, run_of}
use Rattle.record_operations.specs.Worked.{HasWorked}
use Rattle.record_operations.proofs.Cleared.{clears-on, free-more, free-all, ended, worked-for}
use Rattle.record_operations.proofs.Holding.{both-desk, both-together, deck-on}
use Rattle.record_operations.proofs.running.TableRun.end.Goals as goal

pub loop-ticket-preserved : goal.loop-ticket-preserved
loop-ticket-preserved g c =
    let before = c.loop-ticket.invariant in
    record {
      clears = clears-on c.args.self c.loop-ticket.run c.clear.new.self before.clears c.clear.ensures.clears;
      count = c.clear.ensures.clears.count ∙ before.count;
      free = free-more c.clear.new.self.operations c.loop-ticket.ticket
          (λ t less. c.clear.ensures.clears.free t (before.free t less)) c.clear.ensures.freed;
    }

pub discard-requires : goal.discard-requires
discard-requires g c =
    let run = c.loop-ticket.run in
    let before = c.loop-ticket.invariant in
    let count = before.count in
    let last = c.loop-ticket-test.false in
    λ t.
    ap (λ (r : Run). get_or r.operations t None) c.run-2.view_is
    ∙ c.clear_spawned.ensures.clears.free t (free-all run.operations c.loop-ticket.ticket (omega (arith, count, last)) before.free t)

pub close-requires : goal.close-requires
close-requires g c = ap (λ (r : Run). kept_in r.futures) c.run-2.view_is ∙ c.clear_spawned.ensures.none

pub returns-clause-ended : goal.returns-clause-ended
returns-clause-ended g c =
    let inside = c.run-2.inside in
    let run = c.loop-ticket.run in
    let before = c.loop-ticket.invariant in
    let count = before.count in
    let last = c.loop-ticket-test.false in
    let free : (t : ℕ) → get_or inside.operations.items t None ≡ None =
    λ t.
    ap (λ (r : Run). get_or r.operations t None) c.run-2.view_is
    ∙ c.clear_spawned.ensures.clears.free t (free-all run.operations c.loop-ticket.ticket (omega (arith, count, last)) before.free t) in
    subst (IsEnded g.B.OnTable.is) (sym c.into_parts-hand.ensures.hand)
    (ended g.B.OnTable.is g.B.OnTable.claimed (run_of inside.table.now inside.plan.now inside.looped inside.operations.items inside.requested inside.futures)
    (g.T.Stepper.plan inside.stepper.now) inside.next c.run-2.invariant.sound free
    (ap (λ (r : Run). kept_in r.futures) c.run-2.view_is ∙ c.clear_spawned.ensures.none) c.join.new.looped c.join.ensures.ready c.join.ensures.same
    c.join.ensures.joined)

pub returns-clause-worked : goal.returns-clause-worked
returns-clause-worked g c =
    let inside = c.run-2.inside in
    let run = c.loop-ticket.run in
    let before = c.loop-ticket.invariant in
    let count = before.count in
    let last = c.loop-ticket-test.false in
    let free : (t : ℕ) → get_or inside.operations.items t None ≡ None =
    λ t.
    ap (λ (r : Run). get_or r.operations t None) c.run-2.view_is
    ∙ c.clear_spawned.ensures.clears.free t (free-all run.operations c.loop-ticket.ticket (omega (arith, count, last)) before.free t) in
    subst (λ (hand : Seat (Option Item) (View Item Entry)). HasWorked c.args.self.plan (g.B.OnTable.claimed + begun_by c.args.self) (knows hand).claimed)
    (sym c.into_parts-hand.ensures.hand)
    (worked-for g.B.OnTable.is g.B.OnTable.claimed
    (run_of inside.table.now inside.plan.now inside.looped inside.operations.items inside.requested inside.futures)
    (g.T.Stepper.plan inside.stepper.now) inside.next c.run-2.invariant.sound free
    (ap (λ (r : Run). kept_in r.futures) c.run-2.view_is ∙ c.clear_spawned.ensures.none) c.join.new.looped c.join.ensures.ready c.join.ensures.same
    c.args.self
    (subst (Clears c.args.self) (sym c.run-2.view_is)
    (clears-on c.args.self run c.clear_spawned.new.self before.clears c.clear_spawned.ensures.clears)))

-- the parts that the run has when its scope is joined
pub desk_of-requires : goal.desk_of-requires
desk_of-requires g c =
    let inside = c.run-2.inside in
    record {
      together = both-together g.B.OnTable.desk c.into_parts-hand.result.1 inside.post
          (subst (λ deck. KeepsBoth (deck_in g.B.OnTable.desk) (post_in g.B.OnTable.desk) deck inside.post) (sym c.into_parts-hand.ensures.deck)
          (deck-on (deck_in g.B.OnTable.desk) (post_in g.B.OnTable.desk) (deck_of inside.looped) inside.post c.run-2.invariant.both
          (deck_of c.join.new.looped) c.join.ensures.deck));
    }

pub returns-clause-desk : goal.returns-clause-desk
returns-clause-desk g c =
    let inside = c.run-2.inside in
    both-desk g.B.OnTable.desk c.into_parts-hand.result.1 inside.post c.desk_of.result c.desk_of.ensures.deck c.desk_of.ensures.post
    (subst (λ deck. KeepsBoth (deck_in g.B.OnTable.desk) (post_in g.B.OnTable.desk) deck inside.post) (sym c.into_parts-hand.ensures.deck)
    (deck-on (deck_in g.B.OnTable.desk) (post_in g.B.OnTable.desk) (deck_of inside.looped) inside.post c.run-2.invariant.both (deck_of c.join.new.looped)
    c.join.ensures.deck))
