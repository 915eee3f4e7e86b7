use Rattle.std.proofs.Common.{refl, sym, subst, arith}
use Rattle.std.specs.Prelude.{List, Option}
use Rattle.spawn_future.specs.declared.future.Future.{Future}
use Rattle.spawn_future.specs.Keeping.{IsKeeping}
use Rattle.spawn_future.specs.Slots.{IsFree, WaitsNowhere}
use Rattle.spawn_future.proofs.Fresh.{all-full}
use Rattle.spawn_future.proofs.Kept.{keeping-same}
use Rattle.spawn_future.proofs.Slotted.{put-slots, has-room, kept-most}
use Rattle.spawn_future.proofs.Spawned.{kept-out-same, kept-out-refuses, spawned-keeping}
use Rattle.spawn_future.proofs.futures.Futures.spawn.Goals as goal

pub put-requires-clause-within : goal.put-requires-clause-within
put-requires-clause-within g c =
    (subst (λ (l : List (Option Future)). IsFree l c.in-Some.slot) (sym c.self.view_is) c.in-Some.ensures.free).within

pub put-requires-clause-free : goal.put-requires-clause-free
put-requires-clause-free g c =
    (subst (λ (l : List (Option Future)). IsFree l c.in-Some.slot) (sym c.self.view_is) c.in-Some.ensures.free).none

pub invariant_of-self : goal.invariant_of-self
invariant_of-self g c =
    let slots = c.self.inside.slots.items in
    let free = subst (λ (l : List (Option Future)). IsFree l c.in-Some.slot) (sym c.self.view_is) c.in-Some.ensures.free in
    let nowhere = subst (λ (l : List (Option Future)). WaitsNowhere c.args.owner l) (sym c.self.view_is) c.requires.unowned in
    rw c.put.ensures
    (put-slots slots c.self.inside.kept c.in-Some.slot c.self.invariant free.within _ free.none nowhere)

pub returns-in-Ok-clause-keeping : goal.returns-in-Ok-clause-keeping
returns-in-Ok-clause-keeping g c =
    let slots = c.self.inside.slots.items in
    let free = subst (λ (l : List (Option Future)). IsFree l c.in-Some.slot) (sym c.self.view_is) c.in-Some.ensures.free in
    let keeping = subst (λ (l : List (Option Future)). IsKeeping c.args.site.now l c.args.hand.now) (sym c.self.view_is) c.requires.keeping in
    spawned-keeping c.args.site.now slots _ c.args.hand.now c.enter.new.hand keeping c.enter.ensures.stays.hand c.enter.ensures.rests
    c.in-Some.slot free.within _ free.none c.args.env c.requires.start.receiver c.in-Ok.ensures.entered c.put.ensures

pub returns-in-Ok-clause-spawned : goal.returns-in-Ok-clause-spawned
returns-in-Ok-clause-spawned g c =
    let free = subst (λ (l : List (Option Future)). IsFree l c.in-Some.slot) (sym c.self.view_is) c.in-Some.ensures.free in
    rw (← c.self.view_is)
    (record {
      slot = c.in-Some.slot;
      free = free;
      future = _;
      owner_is = refl;
      waited = refl;
      slots = c.put.ensures;
      enters = c.in-Ok.ensures.entered;
      only = c.in-Ok.ensures.only;
    })

pub returns-in-Err-clause-keeping : goal.returns-in-Err-clause-keeping
returns-in-Err-clause-keeping g c =
    keeping-same c.args.site.now c.args.self.now c.args.hand.now c.enter.new.hand c.requires.keeping c.enter.ensures.stays.hand
    c.enter.ensures.rests (kept-out-same c.args.site.now c.args.env c.args.hand.now c.enter.new.hand c.in-Err.fault c.in-Err.ensures.out)

pub returns-in-Err-clause-refused : goal.returns-in-Err-clause-refused
returns-in-Err-clause-refused g c =
    kept-out-refuses c.args.site.now c.args.env c.args.self.now c.args.hand.now c.enter.new.hand c.in-Err.fault
    (has-room c.args.self.now c.in-Some.slot c.in-Some.ensures.free) c.in-Err.ensures.out

pub returns-in-None-clause-refused : goal.returns-in-None-clause-refused
returns-in-None-clause-refused g c =
    record { back_is = refl; because = (all-full c.args.self.now c.in-None.ensures.none, refl) }

pub overflow_add-self : goal.overflow_add-self
overflow_add-self g c =
    let most = kept-most c.self.inside.slots.items c.self.inside.kept c.self.invariant in
    omega (arith, most)
