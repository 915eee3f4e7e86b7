use Rattle.std.proofs.Common.{◌≡◌, ◌+◌, length, inl, inr, refl, sym, arith, subst}
use Rattle.std.specs.Bool.{OnTrue, OnFalse}
use Rattle.op_slot.proofs.Staying.{stays-here, stays-on}
use Rattle.spawn_future.specs.Sweeps.{EndsSlot, LeavesSlot, SweepsFirst, SweepsTo}
use Rattle.spawn_future.proofs.Swept.{each-more, swept-none, slot-left, slot-ended, swept-all}
use Rattle.std.proofs.lemmas.List.Sums.{count_by-le-length}
use Rattle.std.specs.Prelude.{is_some}
use Rattle.spawn_future.proofs.futures.Futures.sweep.Goals as goal
use Rattle.spawn_future.proofs.futures.Futures.sweep.Goals.{then-sweep_slot, else-sweep_slot}

pub loop-slot-init : goal.loop-slot-init
loop-slot-init g c =
    let all = c.most-slot-end.ensures.all in
    let few = c.most-slot-end.ensures.few in
    record {
      count = sym all;
      few = omega (arith, all, few);
      keeping = c.requires.keeping;
      same = (stays-here c.args.table.now c.args.hand.now c.requires.keeping.hand_of).same;
      within = omega arith;
      each = (refl, refl);
      swept = swept-none c.args.table.now c.args.self.now c.args.hand.now.me;
    }

pub sweep_slot-requires-clause-within : goal.sweep_slot-requires-clause-within
sweep_slot-requires-clause-within g c =
    let count = c.loop-slot.invariant.count in
    let long = c.loop-slot.invariant.swept.as_many in
    let below = c.loop-slot-test.true in
    omega (arith, count, long, below)

pub loop-slot-preserved : goal.loop-slot-preserved
loop-slot-preserved g c =
    let board = c.args.table.now in
    let before = c.loop-slot.invariant in
    let old = c.args.hand.now in
    let between = c.loop-slot.hand in
    let new = c.sweep_slot.new.hand in
    let later = c.sweep_slot.new.self in
    record {
      count = before.count;
      few = before.few;
      keeping = c.sweep_slot.ensures.keeping;
      same = (stays-on board old between new (record { same = before.same; hand = before.keeping.hand_of })
          (record { same = c.sweep_slot.ensures.same; hand = c.sweep_slot.ensures.keeping.hand_of })).same;
      within = let below = c.loop-slot-test.true in omega (arith, below);
      each = each-more board c.loop-slot.slot c.args.self.now c.loop-slot.self later old.me between.me new.me before.each
          (elim c.if-sweep_slot.branch [
            | then-sweep_slot w ↦ inl (subst (λ b. OnTrue b (EndsSlot board c.loop-slot.slot c.loop-slot.self later between.me new.me)) w.if-sweep_slot.true c.sweep_slot.ensures.ended)
            | else-sweep_slot w ↦ inr (subst (λ b. OnFalse b (LeavesSlot board c.loop-slot.slot c.loop-slot.self later between.me new.me)) w.if-sweep_slot.false c.sweep_slot.ensures.left)
          ]);
      swept = elim c.if-sweep_slot.branch [
        | then-sweep_slot w ↦
            subst (λ n. SweepsTo board (c.loop-slot.slot + 1) n c.args.self.now later old.me new.me) (sym w.ended-is)
            (slot-ended board c.loop-slot.slot c.loop-slot.ended c.args.self.now c.loop-slot.self later old.me between.me new.me before.swept
            before.keeping.keeps (subst (λ b. OnTrue b (EndsSlot board c.loop-slot.slot c.loop-slot.self later between.me new.me)) w.if-sweep_slot.true c.sweep_slot.ensures.ended))
        | else-sweep_slot w ↦
            subst (λ n. SweepsTo board (c.loop-slot.slot + 1) n c.args.self.now later old.me new.me) (sym w.ended-is)
            (slot-left board c.loop-slot.slot c.loop-slot.ended c.args.self.now c.loop-slot.self later old.me between.me new.me before.swept
            (subst (λ b. OnFalse b (LeavesSlot board c.loop-slot.slot c.loop-slot.self later between.me new.me)) w.if-sweep_slot.false c.sweep_slot.ensures.left))
      ];
    }

pub returns-clause-each : goal.returns-clause-each
returns-clause-each g c =
    let is = c.loop-slot.invariant in
    let count = is.count in
    let within = is.within in
    let past = c.loop-slot-test.false in
    let all : c.loop-slot.slot ≡ length c.args.self.now = omega (arith, count, within, past) in
    subst (λ n. SweepsFirst c.args.table.now n c.args.self.now c.loop-slot.self c.args.hand.now.me c.loop-slot.hand.me) all is.each

pub returns-clause-swept : goal.returns-clause-swept
returns-clause-swept g c =
    let is = c.loop-slot.invariant in
    let count = is.count in
    let past = c.loop-slot-test.false in
    swept-all c.args.table.now c.loop-slot.slot c.loop-slot.ended c.args.self.now c.loop-slot.self c.args.hand.now.me c.loop-slot.hand.me
    (omega (arith, count, past)) is.swept

pub overflow_add-ended : goal.overflow_add-ended
overflow_add-ended g c =
    let kept = c.loop-slot.invariant.swept.kept in
    let few = c.loop-slot.invariant.few in
    let most = count_by-le-length is_some c.args.self.now in
    omega (arith, kept, few, most)
