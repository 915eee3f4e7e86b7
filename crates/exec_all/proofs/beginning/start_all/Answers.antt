use Rattle.std.proofs.Common.{◌≡◌, ◌-◌, ◌<◌, ℕ, suc, length, arith, refl, sym, ap, ◌∙◌, subst}
use Rattle.std.specs.Prelude.{None}
use Rattle.life_rules.specs.declared.event.Name.{Name}
use Rattle.op_slot.specs.Tends.{HasPlaces}
use Rattle.home_items.specs.Entries.{record_number, carried_of, no_row}
use Rattle.exec_recv.specs.declared.next.Next.TheVariants.{Rest as IsAtRest}
use Rattle.exec_recv.specs.Sites.{node_at}
use Rattle.step_parts.specs.Awaits.{AwaitsMany}
use Rattle.step_parts.specs.Stepping.{Stepping}
use Rattle.step_parts.specs.Takes.{IsTaken}
use Rattle.step_parts.proofs.AllStarted.{IsPutting, putting-none, putting-more, putting-all}
use Rattle.exec_all.specs.Begins.{StartsAll}
use Rattle.exec_all.specs.Starts.{HasLast}
use Rattle.exec_all.proofs.Begun.{as-named, all-await, child-starts, child-carries, child-puts}
use Rattle.exec_all.proofs.Plans.{all-kids}
use Rattle.exec_all.proofs.beginning.start_all.Goals as goal

pub await_many-requires : goal.await_many-requires
await_many-requires g c =
    record {
      may = all-await c.args.site.now c.args.taken c.args.children.now c.args.hand.now c.requires.may.taken c.requires.may.node_is
          c.requires.may.idle;
    }

pub loop-left-init : goal.loop-left-init
loop-left-init g c =
    let x = c.name-name.result in
    let start = c.of-above.result.start in
    let u : Stepping = record { name = x; start = start; from = c.args.taken.from } in
    let same = as-named c.args.taken x start c.name-name.ensures c.of-above.ensures in
    record {
      within = omega arith;
      putting = putting-none c.args.site.now u None c.args.children.now c.args.hand.now c.await_many.new.hand
          (subst (λ (s : Stepping). AwaitsMany c.args.site.now s None c.args.children.now c.args.hand.now c.await_many.new.hand) same c.await_many.ensures);
      copies = subst (λ (s : Stepping). HasLast (carried_of s.start) (length c.args.children.now) c.args.copies) same c.requires.may.copies_are;
    }

-- the start of the last child that is left
before : (left : ℕ) → 0 < left → left ≡ suc (left - 1)
before left some = omega arith

pub take-args-requires : goal.take-args-requires
take-args-requires g c =
    record {
      values = carried_of c.of-above.result.start;
      left = c.loop-left.left - 1;
      has = subst (λ k. HasLast (carried_of c.of-above.result.start) k c.loop-left.copies) (before c.loop-left.left c.loop-left-test.true)
          c.loop-left.invariant.copies;
    }

pub below-below-requires-clause-number : goal.below-below-requires-clause-number
below-below-requires-clause-number g c = c.number-number.ensures ∙ ap record_number (sym c.of-above.ensures)

pub below-below-requires-clause-goes_on : goal.below-below-requires-clause-goes_on
below-below-requires-clause-goes_on g c =
    let board = c.args.site.now in
    let x = c.name-name.result in
    let start = c.of-above.result.start in
    let u : Stepping = record { name = x; start = start; from = c.args.taken.from } in
    let same = as-named c.args.taken x start c.name-name.ensures c.of-above.ensures in
    let taken = subst (λ (s : Stepping). IsTaken board s c.args.hand.now) same c.requires.may.taken in
    let has = subst (λ k. HasLast (carried_of start) k c.loop-left.copies) (before c.loop-left.left c.loop-left-test.true)
    c.loop-left.invariant.copies in
    child-starts board u c.args.children.now c.args.hand.now taken (ap (node_at board) c.name-name.ensures ∙ c.requires.may.node_is)
    (c.loop-left.left - 1) (omega arith) c.take-args.result (c.take-args.ensures (carried_of start) (c.loop-left.left - 1) has).0

pub below-below-requires-clause-carries : goal.below-below-requires-clause-carries
below-below-requires-clause-carries g c =
    let board = c.args.site.now in
    let x = c.name-name.result in
    let start = c.of-above.result.start in
    let u : Stepping = record { name = x; start = start; from = c.args.taken.from } in
    let same = as-named c.args.taken x start c.name-name.ensures c.of-above.ensures in
    let taken = subst (λ (s : Stepping). IsTaken board s c.args.hand.now) same c.requires.may.taken in
    let has = subst (λ k. HasLast (carried_of start) k c.loop-left.copies) (before c.loop-left.left c.loop-left-test.true)
    c.loop-left.invariant.copies in
    child-carries board u c.args.children.now c.args.hand.now taken (ap (node_at board) c.name-name.ensures ∙ c.requires.may.node_is)
    (c.loop-left.left - 1) (omega arith) c.take-args.result (c.take-args.ensures (carried_of start) (c.loop-left.left - 1) has).0

pub put_start-requires-clause-hand : goal.put_start-requires-clause-hand
put_start-requires-clause-hand g c = c.loop-left.invariant.putting.stays.hand

pub put_start-requires-clause-may : goal.put_start-requires-clause-may
put_start-requires-clause-may g c =
    let board = c.args.site.now in
    let x = c.name-name.result in
    let start = c.of-above.result.start in
    let u : Stepping = record { name = x; start = start; from = c.args.taken.from } in
    let same = as-named c.args.taken x start c.name-name.ensures c.of-above.ensures in
    let taken = subst (λ (s : Stepping). IsTaken board s c.args.hand.now) same c.requires.may.taken in
    let has = subst (λ k. HasLast (carried_of start) k c.loop-left.copies) (before c.loop-left.left c.loop-left-test.true)
    c.loop-left.invariant.copies in
    let starting = subst (λ k. IsPutting board x start no_row c.args.children.now k c.await_many.new.hand c.loop-left.hand)
    (before c.loop-left.left c.loop-left-test.true) c.loop-left.invariant.putting in
    child-puts board u c.args.children.now c.args.hand.now taken (ap (node_at board) c.name-name.ensures ∙ c.requires.may.node_is)
    (c.loop-left.left - 1) (omega arith) c.take-args.result (c.take-args.ensures (carried_of start) (c.loop-left.left - 1) has).0
    c.below-below.result c.below-below.ensures c.loop-left.hand.me (starting.starting.bare (c.loop-left.left - 1) (omega arith))

pub loop-left-preserved : goal.loop-left-preserved
loop-left-preserved g c =
    let board = c.args.site.now in
    let x = c.name-name.result in
    let start = c.of-above.result.start in
    let has = subst (λ k. HasLast (carried_of start) k c.loop-left.copies) (before c.loop-left.left c.loop-left-test.true)
    c.loop-left.invariant.copies in
    let starting = subst (λ k. IsPutting board x start no_row c.args.children.now k c.await_many.new.hand c.loop-left.hand)
    (before c.loop-left.left c.loop-left-test.true) c.loop-left.invariant.putting in
    let taken = c.requires.may.taken in
    let at = ap (node_at board) c.name-name.ensures ∙ c.requires.may.node_is in
    record {
      within = omega arith;
      putting = putting-more board x start no_row c.args.children.now (c.loop-left.left - 1) c.await_many.new.hand c.loop-left.hand
          c.put_start.new.hand starting
          (subst (λ (y : Name). HasPlaces board.frame y) (sym c.name-name.ensures) taken.ready.is.places)
          (all-kids board x c.args.children.now taken.site at) (omega arith) _ refl c.below-below.result c.put_start.ensures.stays
          c.put_start.ensures.puts;
      copies = (c.take-args.ensures (carried_of start) (c.loop-left.left - 1) has).1;
    }

pub returns : goal.returns
returns g c =
    let board = c.args.site.now in
    let x = c.name-name.result in
    let start = c.of-above.result.start in
    let u : Stepping = record { name = x; start = start; from = c.args.taken.from } in
    let same = as-named c.args.taken x start c.name-name.ensures c.of-above.ensures in
    let awaits = subst (λ (s : Stepping). AwaitsMany board s None c.args.children.now c.args.hand.now c.await_many.new.hand) same
    c.await_many.ensures in
    let none : c.loop-left.left ≡ 0 = omega arith in
    let puts = subst (λ k. IsPutting board x start no_row c.args.children.now k c.await_many.new.hand c.loop-left.hand) none
    c.loop-left.invariant.putting in
    subst (λ (s : Stepping). StartsAll board s c.args.children.now IsAtRest c.args.hand.now c.loop-left.hand) (sym same)
    (record {
      steps = putting-all board u None c.args.children.now c.args.hand.now c.await_many.new.hand c.loop-left.hand awaits puts;
      next_is = refl;
      waiting = c.await_many.new.hand;
      awaits = awaits;
      owed = puts.owed;
    })
