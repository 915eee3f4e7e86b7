use Rattle.std.proofs.Common.{◌<◌, length, refl, sym, subst}
use Rattle.std.specs.Prelude.{List, Option, IsSome}
use Rattle.spawn_future.specs.declared.future.Future.{Future}
use Rattle.spawn_future.specs.Slots.{Has}
use Rattle.spawn_future.proofs.Entered.{ended}
use Rattle.spawn_future.proofs.Kept.{block-listed}
use Rattle.spawn_future.proofs.Moved.{left-moves, moved-rests}
use Rattle.spawn_future.proofs.Slotted.{freed-slots, kept-some}
use Rattle.spawn_future.proofs.Spawned.{ended-has, ended-keeping, incomplete-keeping}
use Rattle.spawn_future.proofs.futures.Futures.end.Goals as goal

pub end_root-requires-clause-listed : goal.end_root-requires-clause-listed
end_root-requires-clause-listed g c =
    block-listed c.args.table.now c.args.self.now c.args.slot c.args.block c.args.hand.now.me c.requires.keeping.keeps c.requires.has

pub take-future-requires-clause-within : goal.take-future-requires-clause-within
take-future-requires-clause-within g c =
    subst (λ (l : List (Option Future)). c.args.slot < length l) (sym c.self.view_is) c.requires.within

pub take-future-requires-clause-taken : goal.take-future-requires-clause-taken
take-future-requires-clause-taken g c =
    let has = subst (λ (l : List (Option Future)). Has l c.args.slot c.requires.has.future) (sym c.self.view_is) c.requires.has.has in
    subst (λ (o : Option Future). IsSome o) (sym has) refl

pub overflow_sub-self : goal.overflow_sub-self
overflow_sub-self g c =
    let has = subst (λ (l : List (Option Future)). Has l c.args.slot c.requires.has.future) (sym c.self.view_is) c.requires.has.has in
    let within = subst (λ (l : List (Option Future)). c.args.slot < length l) (sym c.self.view_is) c.requires.within in
    kept-some c.self.inside.slots.items c.self.inside.kept c.args.slot c.self.invariant within c.requires.has.future has

pub disassociate-requires-clause-has : goal.disassociate-requires-clause-has
disassociate-requires-clause-has g c κs =
    ended-has c.args.table.now c.args.self.now c.args.slot c.args.block c.args.hand.now.me c.end_root.new.hand.me c.in_ok-ended.ended
    c.requires.keeping.keeps c.requires.has c.requires.keeping.settled c.in_ok-ended.ensures.ends

pub invariant_of-self : goal.invariant_of-self
invariant_of-self g c =
    let has = subst (λ (l : List (Option Future)). Has l c.args.slot c.requires.has.future) (sym c.self.view_is) c.requires.has.has in
    let within = subst (λ (l : List (Option Future)). c.args.slot < length l) (sym c.self.view_is) c.requires.within in
    rw c.take-future.ensures.items
    (freed-slots c.self.inside.slots.items c.self.inside.kept c.args.slot c.self.invariant within c.requires.has.future has)

pub returns-clause-keeping : goal.returns-clause-keeping
returns-clause-keeping g c =
    let between = c.end_root.new.hand.me in
    let left = left-moves between c.disassociate.new.hand.me c.disassociate.ensures.left in
    ended-keeping c.args.table.now c.args.self.now _ c.args.hand.now c.disassociate.new.hand c.requires.keeping
    c.disassociate.ensures.stays.hand (moved-rests _ between c.disassociate.new.hand.me left c.end_root.ensures.rests)
    c.args.slot c.requires.within c.requires.has.future c.requires.has.has c.args.block c.requires.has.block_is c.in_ok-ended.ended
    (ended c.args.table.now c.args.block c.args.hand.now.me between c.disassociate.new.hand.me c.in_ok-ended.ended c.in_ok-ended.ensures.ends c.disassociate.ensures.left)
    (rw (← c.self.view_is) c.take-future.ensures.items)

pub returns-clause-ended : goal.returns-clause-ended
returns-clause-ended g c =
    let between = c.end_root.new.hand.me in
    record {
      slots = rw (← c.self.view_is) c.take-future.ensures.items;
      ends = ended c.args.table.now c.args.block c.args.hand.now.me between c.disassociate.new.hand.me c.in_ok-ended.ended
          c.in_ok-ended.ensures.ends c.disassociate.ensures.left;
    }

pub returns-in_err-ended-clause-keeping : goal.returns-in_err-ended-clause-keeping
returns-in_err-ended-clause-keeping g c =
    incomplete-keeping c.args.table.now c.args.self.now c.args.block c.args.hand.now c.end_root.new.hand c.requires.keeping
    c.end_root.ensures.stays.hand c.end_root.ensures.rests c.in_err-ended.ensures.none

pub returns-in_err-ended-clause-none : goal.returns-in_err-ended-clause-none
returns-in_err-ended-clause-none g c = rw c.from_residual.ensures (record { slots = refl; read = c.in_err-ended.ensures.none })
