use Rattle.std.proofs.Common.{◌≡◌, ◌≤◌, ◌-◌, refl, sym, ap, ◌∙◌, subst, add-zero, arith}
use Rattle.life_rules.specs.declared.event.Name.{Name}
use Rattle.plan_shape.specs.declared.limits.TheConstants.{BULK_PARTS}
use Rattle.home_items.specs.Parcels.{delivery_of}
use Rattle.step_parts.specs.Kids.{AreKids}
use Rattle.exec_bulk.specs.Rows.{numbers_in, parts_for}
use Rattle.exec_bulk.proofs.Begun.{parts-are, parts-behind, parts-kids, parts-may}
use Rattle.exec_bulk.proofs.Starting.{all-put, next-may, next-put, next-starts, none-put}
use Rattle.exec_bulk.proofs.beginning.start_parts.Goals as goal

pub first_part-first-requires : goal.first_part-first-requires
first_part-first-requires g c =
    subst (λ (y : Name). BULK_PARTS ≤ y.node) (sym c.name-name.ensures)
    (parts-behind c.args.site.now c.args.taken (delivery_of c.args.label c.args.done.now) c.args.hand.now c.requires.may.may)

pub read_all_idle-requires-clause-kids : goal.read_all_idle-requires-clause-kids
read_all_idle-requires-clause-kids g c =
    let may = c.requires.may.may in
    subst (λ ns. AreKids c.args.site.now c.args.taken.name ns)
    (sym (parts-are _ _ _ _ may _ _ _ _ c.name-name.ensures c.first_part-first.ensures
    (c.parts_for-count.ensures ∙ ap parts_for c.numbers_of.ensures.numbers) c.part_nodes-nodes.ensures))
    (parts-kids _ _ _ _ may)

pub await_keeping-requires-clause-may : goal.await_keeping-requires-clause-may
await_keeping-requires-clause-may g c =
    let may = c.requires.may.may in
    parts-may _ _ _ _ may _ c.read_all_idle.ensures.keeps _
    (parts-are _ _ _ _ may _ _ _ _ c.name-name.ensures c.first_part-first.ensures
    (c.parts_for-count.ensures ∙ ap parts_for c.numbers_of.ensures.numbers) c.part_nodes-nodes.ensures)
    c.read_all_idle.ensures.idle

pub await_keeping-requires-clause-lawful : goal.await_keeping-requires-clause-lawful
await_keeping-requires-clause-lawful g c = c.requires.may.may.goes_on.has.from.delivers

pub loop-left-init : goal.loop-left-init
loop-left-init g c =
    let start = c.requires.may in
    let count : c.parts_for-count.result ≡ parts_for (numbers_in c.args.done.now) =
    c.parts_for-count.ensures ∙ ap parts_for c.numbers_of.ensures.numbers in
    record {
      some = omega (arith, count, start.may.some);
      within = omega (arith, count);
      put = none-put _ _ _ _ _ start _ c.read_all_idle.ensures.keeps _
          (parts-are _ _ _ _ start.may _ _ _ _ c.name-name.ensures c.first_part-first.ensures count c.part_nodes-nodes.ensures) _
          c.await_keeping.ensures _ count;
    }

pub below-below-requires-clause-goes_on : goal.below-below-requires-clause-goes_on
below-below-requires-clause-goes_on g c =
    next-starts _ _ _ _ _ c.loop-left.left (c.loop-left.left - 1) (omega (arith, c.loop-left-test.true)) c.loop-left.invariant.within _ _
    c.loop-left.invariant.put _ c.name-name.ensures _ c.first_part-first.ensures _ refl _ c.copy_waiting-args.ensures _ c.asked-asked.ensures _
    c.of-above.ensures

pub put_start-requires-clause-may : goal.put_start-requires-clause-may
put_start-requires-clause-may g c =
    next-may _ _ _ _ _ c.loop-left.left (c.loop-left.left - 1) (omega (arith, c.loop-left-test.true)) c.loop-left.invariant.within _ _
    c.loop-left.invariant.put _ c.name-name.ensures _ c.first_part-first.ensures _ refl _ c.copy_waiting-args.ensures _ c.asked-asked.ensures _
    c.of-above.ensures _ c.below-below.ensures

pub loop-left-preserved : goal.loop-left-preserved
loop-left-preserved g c =
    record {
      some = omega (arith, c.loop-left-test.true);
      within = omega (arith, c.loop-left.invariant.within);
      put = next-put _ _ _ _ _ c.loop-left.left (c.loop-left.left - 1) (omega (arith, c.loop-left-test.true)) c.loop-left.invariant.within _ _
          c.loop-left.invariant.put _ c.name-name.ensures _ c.first_part-first.ensures _ refl _ c.copy_waiting-args.ensures _ c.asked-asked.ensures _
          c.of-above.ensures _ c.below-below.ensures _ c.put_start.ensures.stays c.put_start.ensures.puts;
    }

pub below-below-requires-2-clause-goes_on : goal.below-below-requires-2-clause-goes_on
below-below-requires-2-clause-goes_on g c =
    let one : c.loop-left.left ≡ 1 = omega (arith, c.loop-left.invariant.some, c.loop-left-test.false) in
    next-starts _ _ _ _ _ c.loop-left.left 0 one c.loop-left.invariant.within _ _ c.loop-left.invariant.put _ c.name-name.ensures _
    c.first_part-first.ensures _ (sym (add-zero _)) _ refl _ c.asked-asked.ensures _ c.of-above.ensures

pub put_start-requires-2-clause-may : goal.put_start-requires-2-clause-may
put_start-requires-2-clause-may g c =
    let one : c.loop-left.left ≡ 1 = omega (arith, c.loop-left.invariant.some, c.loop-left-test.false) in
    next-may _ _ _ _ _ c.loop-left.left 0 one c.loop-left.invariant.within _ _ c.loop-left.invariant.put _ c.name-name.ensures _
    c.first_part-first.ensures _ (sym (add-zero _)) _ refl _ c.asked-asked.ensures _ c.of-above.ensures _ c.below-below-2.ensures

pub returns : goal.returns
returns g c =
    let one : c.loop-left.left ≡ 1 = omega (arith, c.loop-left.invariant.some, c.loop-left-test.false) in
    all-put _ _ _ _ _ _ _
    (next-put _ _ _ _ _ c.loop-left.left 0 one c.loop-left.invariant.within _ _ c.loop-left.invariant.put _ c.name-name.ensures _
    c.first_part-first.ensures _ (sym (add-zero _)) _ refl _ c.asked-asked.ensures _ c.of-above.ensures _ c.below-below-2.ensures _
    c.put_start-2.ensures.stays c.put_start-2.ensures.puts)
