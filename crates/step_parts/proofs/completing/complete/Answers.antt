use Rattle.std.proofs.Common.{ap, sym, ◌∙◌, subst}
use Rattle.home_items.specs.Contents.{Done}
use Rattle.home_items.specs.Parcels.{MayDeliver, parcel_with}
use Rattle.op_slot.proofs.Loans.{if-there}
use Rattle.step_parts.proofs.Changing.{taken-home, lent-goes, lent-start, lent-there, lent-changes}
use Rattle.step_parts.proofs.Completed.{can-deliver, completes}
use Rattle.step_parts.proofs.Ended.{taken-on}
use Rattle.step_parts.proofs.completing.complete.Goals as goal

pub item_mut-requires-clause-home : goal.item_mut-requires-clause-home
item_mut-requires-clause-home g c κs =
    taken-home _ _ _ (taken-on _ _ _ _ (rw (← c.site.view_is, ← c.taken.view_is) at c.settle.ensures.keeps) (rw (← c.site.view_is, ← c.taken.view_is) at c.requires.may).taken)

pub end-failed-requires-clause-goes_on : goal.end-failed-requires-clause-goes_on
end-failed-requires-clause-goes_on g c =
    lent-goes _ _ _ (taken-on _ _ _ _ (rw (← c.site.view_is, ← c.taken.view_is) at c.settle.ensures.keeps) (rw (← c.site.view_is, ← c.taken.view_is) at c.requires.may).taken)
    c.item_mut.result c.item_mut.ensures.value
    c.in-Some.item c.in-Some.is

pub end-failed-requires-clause-may : goal.end-failed-requires-clause-may
end-failed-requires-clause-may g c =
    subst (λ s. MayDeliver s c.args.saw c.args.done.now)
    (sym (lent-start _ _ _ (taken-on _ _ _ _ (rw (← c.site.view_is, ← c.taken.view_is) at c.settle.ensures.keeps) (rw (← c.site.view_is, ← c.taken.view_is) at c.requires.may).taken)
    c.item_mut.result c.item_mut.ensures.value
    c.in-Some.item c.in-Some.is))
    (rw (← c.site.view_is, ← c.taken.view_is) at c.requires.may).allowed

pub unreachable-requires : goal.unreachable-requires
unreachable-requires g c =
    lent-there _ _ _ (taken-on _ _ _ _ (rw (← c.site.view_is, ← c.taken.view_is) at c.settle.ensures.keeps) (rw (← c.site.view_is, ← c.taken.view_is) at c.requires.may).taken)
    c.item_mut.result c.item_mut.ensures.value c.in-None.is

pub deliver-requires : goal.deliver-requires
deliver-requires g c = record {
  can = rw (← c.site.view_is)
      (can-deliver _ _ _ _ _ _ _ (rw (← c.site.view_is, ← c.taken.view_is) at c.requires.may)
      (rw (← c.site.view_is, ← c.taken.view_is) at c.settle.ensures.keeps) (rw (← c.taken.view_is) at c.settle.ensures.settled)
      (lent-changes _ _ _ (taken-on _ _ _ _ (rw (← c.site.view_is, ← c.taken.view_is) at c.settle.ensures.keeps) (rw (← c.site.view_is, ← c.taken.view_is) at c.requires.may).taken)
      c.item_mut.result c.item_mut.ensures.value
      c.in-Some.item c.in-Some.is c.end-failed.new.self _
      (λ start. c.end-failed.ensures.ended ∙ ap (λ s. Done (parcel_with s c.args.done.now c.args.saw)) start)
      _ (if-there _ (c.item_mut.follows.holds c.end-failed.new.self) c.in-Some.is))
      _ c.end-failed.ensures.on c.end-failed.ensures.off);
}

pub returns : goal.returns
returns g c =
    rw (← c.site.view_is, ← c.taken.view_is)
    (completes _ _ _ _ _ _ _ (rw (← c.site.view_is, ← c.taken.view_is) at c.requires.may)
    (rw (← c.site.view_is, ← c.taken.view_is) at c.settle.ensures.keeps) (rw (← c.taken.view_is) at c.settle.ensures.settled)
    (lent-changes _ _ _ (taken-on _ _ _ _ (rw (← c.site.view_is, ← c.taken.view_is) at c.settle.ensures.keeps) (rw (← c.site.view_is, ← c.taken.view_is) at c.requires.may).taken)
    c.item_mut.result c.item_mut.ensures.value
    c.in-Some.item c.in-Some.is c.end-failed.new.self _
    (λ start. c.end-failed.ensures.ended ∙ ap (λ s. Done (parcel_with s c.args.done.now c.args.saw)) start)
    _ (if-there _ (c.item_mut.follows.holds c.end-failed.new.self) c.in-Some.is))
    _ _ (rw (← c.site.view_is) at c.deliver.ensures.steps) (rw (← c.site.view_is) at c.deliver.ensures.delivers))

pub item_mut-requires-clause-table : goal.item_mut-requires-clause-table
item_mut-requires-clause-table g c κs = (rw (← c.site.view_is) at c.settle.ensures.keeps.stays).hand

pub item_mut-requires-clause-place : goal.item_mut-requires-clause-place
item_mut-requires-clause-place g c κs = rw (← c.site.view_is, ← c.taken.view_is) at c.requires.may.taken.ready.is.place
