use Rattle.std.proofs.Common.{◌≡◌, [], sym, ap, ◌∙◌, subst, arith}
use Rattle.table_steps.specs.Views.{knows}
use Rattle.table_steps.specs.Closings.{gathered, IsGathering}
use Rattle.table_hands_kept.proofs.Gathering.{gathers-first, gathers-next, next-free}
use Rattle.op_table.proofs.table.OpTable.gather.Goals as goal

pub unreachable-requires : goal.unreachable-requires
unreachable-requires g c =
    let none = (c.in_default.ensures {u = tt}).cases.0 in
    let long = c.requires.hands.length_is in
    let some_hand = c.self.invariant.1.some_hand in
    let same = ap (λ b. b.frame.hands) c.self.view_is in
    omega (arith, none, long, some_hand, same)

pub loop-next-init : goal.loop-next-init
loop-next-init g c =
    subst (IsGathering c.args.self.now c.args.hands.items c.pop.new.self.items) (sym c.into_seat-all.ensures)
    (gathers-first c.args.self.now c.args.hands.items c.pop.new.self.items c.in-Some.first c.requires.hands
    c.in-Some.ensures.items)

pub join-requires-clause-table : goal.join-requires-clause-table
join-requires-clause-table g c κs within = c.loop-next.invariant.table_is

pub join-requires-clause-next : goal.join-requires-clause-next
join-requires-clause-next g c κs within =
    subst (λ s. s.table_id ≡ c.args.self.now.table_id) (sym c.into_seat-seat.ensures)
    (next-free c.args.self.now c.args.hands.items c.loop-next.hands.items c.pop-in-loop-next.new.self.items c.loop-next.all
    c.in-Some-pop.next c.loop-next.invariant c.in-Some-pop.ensures.items).0

pub join-requires-clause-slots : goal.join-requires-clause-slots
join-requires-clause-slots g c κs within =
    subst (λ s. s.me.1 ≡ []) (sym c.into_seat-seat.ensures)
    (next-free c.args.self.now c.args.hands.items c.loop-next.hands.items c.pop-in-loop-next.new.self.items c.loop-next.all
    c.in-Some-pop.next c.loop-next.invariant c.in-Some-pop.ensures.items).1

pub loop-next-preserved : goal.loop-next-preserved
loop-next-preserved g c =
    gathers-next c.args.self.now c.args.hands.items c.loop-next.hands.items c.pop-in-loop-next.new.self.items
    c.loop-next.all c.in-Some-pop.next c.join.new.all c.loop-next.invariant c.in-Some-pop.ensures.items
    c.join.ensures.table
    (c.join.ensures.counts ∙ ap (λ s. gathered (knows c.loop-next.all) (knows s)) c.into_seat-seat.ensures)
