use Rattle.std.proofs.Common.{ap, ◌∙◌}
use Rattle.std.specs.Prelude.{Some}
use Rattle.home_items.specs.Contents.{Rest}
use Rattle.op_slot.proofs.Loans.{if-there}
use Rattle.step_parts.proofs.Changing.{taken-home, lent-changes, lent-rests}
use Rattle.step_parts.proofs.leaving.rest.Goals as goal

pub item_mut-requires-clause-home : goal.item_mut-requires-clause-home
item_mut-requires-clause-home g c κs = taken-home _ _ _ (rw (← c.site.view_is, ← c.taken.view_is) at c.requires.taken)

pub returns-in-Some-kept-clause-changes : goal.returns-in-Some-kept-clause-changes
returns-in-Some-kept-clause-changes g c =
    rw (← c.site.view_is, ← c.taken.view_is, c.in-Some-kept.is)
    (lent-changes _ _ _ (rw (← c.site.view_is, ← c.taken.view_is) at c.requires.taken) c.item_mut.result c.item_mut.ensures.value
    c.in-Some.item c.in-Some.is c.keep.new.self _
    (λ start. c.keep.ensures ∙ ap (λ s. Rest s (Some c.in-Some-kept.parcel)) start)
    _ (if-there _ (c.item_mut.follows.holds c.keep.new.self) c.in-Some.is))

pub returns-in-None-kept-clause-changes : goal.returns-in-None-kept-clause-changes
returns-in-None-kept-clause-changes g c =
    rw (← c.site.view_is, ← c.taken.view_is, c.in-None-kept.is)
    (lent-rests _ _ _ (rw (← c.site.view_is, ← c.taken.view_is) at c.requires.taken) c.item_mut.result c.item_mut.ensures.value
    c.in-Some.item c.in-Some.is c.rest.new.self c.rest.ensures _ (if-there _ (c.item_mut.follows.holds c.rest.new.self) c.in-Some.is))

pub item_mut-requires-clause-table : goal.item_mut-requires-clause-table
item_mut-requires-clause-table g c κs = (rw (← c.site.view_is) at c.requires.taken.stays).hand

pub item_mut-requires-clause-place : goal.item_mut-requires-clause-place
item_mut-requires-clause-place g c κs = rw (← c.site.view_is, ← c.taken.view_is) at c.requires.taken.ready.is.place
