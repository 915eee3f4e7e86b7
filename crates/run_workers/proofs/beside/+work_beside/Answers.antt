use Rattle.std.proofs.Common.{ℕ, ◌+◌, rules, List, length, refl, sym, ap, ◌∙◌, subst, arith}
use Rattle.std.specs.Prelude.{vec_len, vec_capacity}
use Rattle.table_steps.specs.Closings.{claimed_by}
use Rattle.plan_shape.specs.Blueprint.{Blueprint}
use Rattle.table_steps.specs.Views.{Board, knows}
use Rattle.run_workers.specs.Crews.{HasServed}
use Rattle.run_workers.proofs.Hands.{TheHand, one-more, claimed-back, gives-back, none-served, still-can}
use Rattle.deck_relay.specs.Desks.{OnlyPosts}
use Rattle.run_workers.proofs.Kept.{desks-back, desks-here, kept-from, room-back, room-for, room-same, room-stays}
use Rattle.run_workers.proofs.beside.+work_beside.Goals as goal

pub returns-in_default-clause-same : goal.returns-in_default-clause-same
returns-in_default-clause-same g t c = desks-here c.args.staff.now.desks.items

pub returns-in-Ok-clause-served : goal.returns-in-Ok-clause-served
returns-in-Ok-clause-served g t c =
    one-more c.args.ground.table.now c.work_beside-last.new.staff.hands.items c.push_reserved.new.self.items c.join-back.result.0 c.work_beside-last.ensures.served
    (subst (λ (b : Board Blueprint). HasServed b c.join-back.result.0)
    (ap (λ p. p.table.value) c.in-Ok.ensures.ok ∙ c.of.ensures) c.join-back.ensures.served)
    c.push_reserved.ensures.items

pub returns-in-Err-clause-served : goal.returns-in-Err-clause-served
returns-in-Err-clause-served g t c =
    one-more c.args.ground.table.now c.work_beside-last-in-Err.new.staff.hands.items c.push_reserved-in-Err.new.self.items c.spawn_with-served.result.0 c.work_beside-last-in-Err.ensures.served
    (subst (λ (b : Board Blueprint). HasServed b c.spawn_with-served.result.0)
    (ap (λ f. f.2.now) c.in-Err.ensures.err) c.spawn_with-served.ensures.served)
    c.push_reserved-in-Err.ensures.items

pub returns-in-Ok-clause-claims : goal.returns-in-Ok-clause-claims
returns-in-Ok-clause-claims g t c =
    claimed-back c.args.staff.now.hands.items c.take_hand.new.hands.items c.work_beside-last.new.staff.hands.items c.push_reserved.new.self.items
    c.in-Some.next c.join-back.result.0 c.in-Some.ensures.with c.push_reserved.ensures.items c.work_beside-last.ensures.claims
    (c.join-back.ensures.claimed
    ∙ ap (λ p. (knows p.hand.value).claimed) c.in-Ok.ensures.ok
    ∙ ap (λ (h : TheHand). (knows h).claimed) c.of-2.ensures)

pub returns-in-Err-clause-claims : goal.returns-in-Err-clause-claims
returns-in-Err-clause-claims g t c =
    claimed-back c.args.staff.now.hands.items c.take_hand.new.hands.items c.work_beside-last-in-Err.new.staff.hands.items
    c.push_reserved-in-Err.new.self.items c.in-Some.next c.spawn_with-served.result.0 c.in-Some.ensures.with c.push_reserved-in-Err.ensures.items
    c.work_beside-last-in-Err.ensures.claims
    (c.spawn_with-served.ensures.claimed ∙ ap (λ f. (knows f.4).claimed) c.in-Err.ensures.err)

pub returns-in-Ok-clause-same : goal.returns-in-Ok-clause-same
returns-in-Ok-clause-same g t c =
    desks-back OnlyPosts c.take_desk-desk.result c.join-back.result.1 c.args.staff.now.desks.items c.take_desk-desk.new.desks.items c.work_beside-last.new.staff.desks.items
    c.put_desk.new.desks.items c.take_desk-desk.ensures.with c.put_desk.ensures.with c.work_beside-last.ensures.same
    (kept-from OnlyPosts c.take_desk-desk.result c.in-Ok.child.promise.desk.value c.join-back.result.1 (ap (λ p. p.desk.value) c.in-Ok.ensures.ok ∙ c.of-3.ensures) c.join-back.ensures.same)

pub returns-in-Err-clause-same : goal.returns-in-Err-clause-same
returns-in-Err-clause-same g t c =
    desks-back OnlyPosts c.take_desk-desk.result c.spawn_with-served.result.1 c.args.staff.now.desks.items c.take_desk-desk.new.desks.items
    c.work_beside-last-in-Err.new.staff.desks.items c.put_desk-in-Err.new.desks.items c.take_desk-desk.ensures.with c.put_desk-in-Err.ensures.with
    c.work_beside-last-in-Err.ensures.same
    (kept-from OnlyPosts c.take_desk-desk.result c.in-Err.refused.value.6 c.spawn_with-served.result.1 (ap (λ f. f.6) c.in-Err.ensures.err) c.spawn_with-served.ensures.same)

pub put_desk-requires : goal.put_desk-requires
put_desk-requires g t c =
    let had = c.args.staff.now.desks in
    let took = c.take_desk-desk.new.desks in
    let has = c.work_beside-last.new.staff.desks in
    let count = c.work_beside-last.ensures.same.count in
    let shelf = c.work_beside-last.ensures.shelf in
    let same = c.take_desk-desk.ensures.capacity in
    record {
      room = room-back OnlyPosts c.take_desk-desk.result c.join-back.result.1 (vec_len had) (vec_len took) (vec_len has) (vec_capacity has)
          c.take_desk-desk.ensures.length (omega (arith, had.ok.0, had.ok.1, shelf, same)) (omega (arith, count, took.ok.0, has.ok.0))
          (kept-from OnlyPosts c.take_desk-desk.result c.in-Ok.child.promise.desk.value c.join-back.result.1 (ap (λ p. p.desk.value) c.in-Ok.ensures.ok ∙ c.of-3.ensures)
          c.join-back.ensures.same);
    }

pub put_desk-requires-in-Err : goal.put_desk-requires-in-Err
put_desk-requires-in-Err g t c =
    let had = c.args.staff.now.desks in
    let took = c.take_desk-desk.new.desks in
    let has = c.work_beside-last-in-Err.new.staff.desks in
    let count = c.work_beside-last-in-Err.ensures.same.count in
    let shelf = c.work_beside-last-in-Err.ensures.shelf in
    let same = c.take_desk-desk.ensures.capacity in
    record {
      room = room-back OnlyPosts c.take_desk-desk.result c.spawn_with-served.result.1 (vec_len had) (vec_len took) (vec_len has) (vec_capacity has)
          c.take_desk-desk.ensures.length (omega (arith, had.ok.0, had.ok.1, shelf, same)) (omega (arith, count, took.ok.0, has.ok.0))
          (kept-from OnlyPosts c.take_desk-desk.result c.in-Err.refused.value.6 c.spawn_with-served.result.1 (ap (λ f. f.6) c.in-Err.ensures.err)
          c.spawn_with-served.ensures.same);
    }

pub returns-in-Ok-clause-leaves : goal.returns-in-Ok-clause-leaves
returns-in-Ok-clause-leaves g t c = c.work_beside-last.ensures.leaves

pub returns-in-Ok-clause-own : goal.returns-in-Ok-clause-own
returns-in-Ok-clause-own g t c = c.work_beside-last.ensures.own

pub returns-in-Ok-clause-given : goal.returns-in-Ok-clause-given
returns-in-Ok-clause-given g t c = c.work_beside-last.ensures.given

pub returns-in-Ok-clause-told : goal.returns-in-Ok-clause-told
returns-in-Ok-clause-told g t c = c.work_beside-last.ensures.told ∙ c.give.ensures.told

pub returns-in-Ok-clause-length : goal.returns-in-Ok-clause-length
returns-in-Ok-clause-length g t c =
    c.push_reserved.ensures.len ∙ ap (λ (n : ℕ). n + 1) c.work_beside-last.ensures.length
    ∙ c.in-Some.ensures.length

pub returns-in-Ok-clause-room : goal.returns-in-Ok-clause-room
returns-in-Ok-clause-room g t c =
    room-stays (vec_capacity c.args.staff.now.hands) (vec_capacity c.take_hand.new.hands)
    (vec_capacity c.work_beside-last.new.staff.hands) (vec_capacity c.push_reserved.new.self)
    c.take_hand.ensures.capacity c.work_beside-last.ensures.room c.push_reserved.ensures.capacity

pub returns-in-Ok-clause-shelf : goal.returns-in-Ok-clause-shelf
returns-in-Ok-clause-shelf g t c =
    room-stays (vec_capacity c.args.staff.now.desks) (vec_capacity c.take_desk-desk.new.desks)
    (vec_capacity c.work_beside-last.new.staff.desks) (vec_capacity c.put_desk.new.desks)
    c.take_desk-desk.ensures.capacity c.work_beside-last.ensures.shelf c.put_desk.ensures.capacity

pub work_beside-last-requires-clause-serve : goal.work_beside-last-requires-clause-serve
work_beside-last-requires-clause-serve g t c κs within = c.take_hand.ensures.serve

pub work_beside-last-requires-clause-needs : goal.work_beside-last-requires-clause-needs
work_beside-last-requires-clause-needs g t c κs within = c.requires.needs

pub work_beside-last-requires-clause-sync : goal.work_beside-last-requires-clause-sync
work_beside-last-requires-clause-sync g t c κs within = c.requires.sync

pub push_reserved-requires : goal.push_reserved-requires
push_reserved-requires g t c =
    let had = c.args.staff.now.hands in
    let took = c.take_hand.new.hands in
    let has = c.work_beside-last.new.staff.hands in
    room-for (vec_len had) (vec_len took) (vec_len has) (vec_capacity had) (vec_capacity took)
    (vec_capacity has) c.in-Some.ensures.length c.work_beside-last.ensures.length
    had.ok.1 c.take_hand.ensures.capacity c.work_beside-last.ensures.room

pub returns-in-Err-clause-leaves : goal.returns-in-Err-clause-leaves
returns-in-Err-clause-leaves g t c = c.work_beside-last-in-Err.ensures.leaves

pub returns-in-Err-clause-own : goal.returns-in-Err-clause-own
returns-in-Err-clause-own g t c = c.work_beside-last-in-Err.ensures.own

pub returns-in-Err-clause-given : goal.returns-in-Err-clause-given
returns-in-Err-clause-given g t c = c.work_beside-last-in-Err.ensures.given

pub returns-in-Err-clause-told : goal.returns-in-Err-clause-told
returns-in-Err-clause-told g t c = c.work_beside-last-in-Err.ensures.told ∙ c.give.ensures.told

pub returns-in-Err-clause-length : goal.returns-in-Err-clause-length
returns-in-Err-clause-length g t c =
    c.push_reserved-in-Err.ensures.len ∙ ap (λ (n : ℕ). n + 1) c.work_beside-last-in-Err.ensures.length
    ∙ c.in-Some.ensures.length

pub returns-in-Err-clause-room : goal.returns-in-Err-clause-room
returns-in-Err-clause-room g t c =
    room-stays (vec_capacity c.args.staff.now.hands) (vec_capacity c.take_hand.new.hands)
    (vec_capacity c.work_beside-last-in-Err.new.staff.hands) (vec_capacity c.push_reserved-in-Err.new.self)
    c.take_hand.ensures.capacity c.work_beside-last-in-Err.ensures.room c.push_reserved-in-Err.ensures.capacity

pub returns-in-Err-clause-shelf : goal.returns-in-Err-clause-shelf
returns-in-Err-clause-shelf g t c =
    room-stays (vec_capacity c.args.staff.now.desks) (vec_capacity c.take_desk-desk.new.desks)
    (vec_capacity c.work_beside-last-in-Err.new.staff.desks) (vec_capacity c.put_desk-in-Err.new.desks)
    c.take_desk-desk.ensures.capacity c.work_beside-last-in-Err.ensures.shelf c.put_desk-in-Err.ensures.capacity

pub work_beside-last-requires-in-Err-clause-serve : goal.work_beside-last-requires-in-Err-clause-serve
work_beside-last-requires-in-Err-clause-serve g t c κs within = c.take_hand.ensures.serve

pub work_beside-last-requires-in-Err-clause-needs : goal.work_beside-last-requires-in-Err-clause-needs
work_beside-last-requires-in-Err-clause-needs g t c κs within = c.requires.needs

pub work_beside-last-requires-in-Err-clause-sync : goal.work_beside-last-requires-in-Err-clause-sync
work_beside-last-requires-in-Err-clause-sync g t c κs within = c.requires.sync

pub push_reserved-requires-in-Err : goal.push_reserved-requires-in-Err
push_reserved-requires-in-Err g t c =
    let had = c.args.staff.now.hands in
    let took = c.take_hand.new.hands in
    let has = c.work_beside-last-in-Err.new.staff.hands in
    room-for (vec_len had) (vec_len took) (vec_len has) (vec_capacity had) (vec_capacity took)
    (vec_capacity has) c.in-Some.ensures.length c.work_beside-last-in-Err.ensures.length
    had.ok.1 c.take_hand.ensures.capacity c.work_beside-last-in-Err.ensures.room

pub returns-in_default-clause-leaves : goal.returns-in_default-clause-leaves
returns-in_default-clause-leaves g t c = c.work.ensures.leaves

pub returns-in_default-clause-own : goal.returns-in_default-clause-own
returns-in_default-clause-own g t c = c.work.ensures.desk

pub returns-in_default-clause-told : goal.returns-in_default-clause-told
returns-in_default-clause-told g t c = refl

pub returns-in_default-clause-length : goal.returns-in_default-clause-length
returns-in_default-clause-length g t c = c.in_default.ensures.length

pub returns-in_default-clause-claims : goal.returns-in_default-clause-claims
returns-in_default-clause-claims g t c = ap claimed_by (sym c.in_default.ensures.with)

pub returns-in_default-clause-served : goal.returns-in_default-clause-served
returns-in_default-clause-served g t c =
    none-served c.args.ground.table.now c.take_hand.new.hands.items c.in_default.ensures.none

pub returns-in_default-clause-room : goal.returns-in_default-clause-room
returns-in_default-clause-room g t c =
    room-same (vec_capacity c.args.staff.now.hands) (vec_capacity c.take_hand.new.hands)
    c.take_hand.ensures.capacity

pub returns-in_default-clause-shelf : goal.returns-in_default-clause-shelf
returns-in_default-clause-shelf g t c =
    let shelf = vec_capacity c.args.staff.now.desks in
    room-same shelf shelf refl

pub returns-in_default-clause-given : goal.returns-in_default-clause-given
returns-in_default-clause-given g t c =
    let took = c.take_hand.new.hands in
    c.requires.each ∙ sym c.in_default.ensures.length ∙ took.ok.0
    ∙ ap (λ (hands : List TheHand). length hands) c.in_default.ensures.none

pub work-requires-clause-needs : goal.work-requires-clause-needs
work-requires-clause-needs g t c = c.requires.needs

pub spawn_with-started-requires-clause-keeps : goal.spawn_with-started-requires-clause-keeps
spawn_with-started-requires-clause-keeps g t c κs within r gives =
    gives-back c.args.ground.table.now c.of.result.value c.in-Some.next c.of-2.result.value
    c.take_desk-desk.result c.of-3.result.value r.0 r.1 c.of.ensures c.of-2.ensures c.of-3.ensures
    gives

pub spawn_with-served-requires-after_bounds : goal.spawn_with-served-requires-after_bounds
spawn_with-served-requires-after_bounds g t c κs within = (
  search rules,
  search rules,
  still-can c.args.ground.table.now c.in-Err.refused.value.2.now
      (g.T.Stepper.plan c.args.ground.stepper.now)
      (g.T.Stepper.plan c.in-Err.refused.value.3.now) c.in-Some.next c.in-Err.refused.value.4
      (ap (λ f. f.2.now) c.in-Err.ensures.err)
      (ap (λ f. g.T.Stepper.plan f.3.now) c.in-Err.ensures.err)
      (ap (λ f. f.4) c.in-Err.ensures.err) c.in-Some.ensures.taken,
)
