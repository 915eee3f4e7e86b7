use Rattle.op_slot.proofs.Loans.{if-there}
use Rattle.step_parts.proofs.Changing.{taken-home, lent-rests, lent-keeps}
use Rattle.step_parts.proofs.starting.rest_and_copy.Goals as goal

pub item_mut-requires-clause-home : goal.item_mut-requires-clause-home
item_mut-requires-clause-home g c κs = taken-home _ _ _ (rw (← c.site.view_is, ← c.taken.view_is) at c.requires.taken)

pub returns-in-Ok-clause-changes : goal.returns-in-Ok-clause-changes
returns-in-Ok-clause-changes g c =
    rw (← c.site.view_is, ← c.taken.view_is)
    (lent-rests _ _ _ (rw (← c.site.view_is, ← c.taken.view_is) at c.requires.taken) c.item_mut.result c.item_mut.ensures.value
    c.in-Some.item c.in-Some.is c.rest.new.self c.rest.ensures _ (if-there _ (c.item_mut.follows.holds c.rest.new.self) c.in-Some.is))

pub returns-in-Err-clause-changes : goal.returns-in-Err-clause-changes
returns-in-Err-clause-changes g c =
    rw (← c.site.view_is, ← c.taken.view_is)
    (lent-keeps _ _ _ (rw (← c.site.view_is, ← c.taken.view_is) at c.requires.taken) c.item_mut.result c.item_mut.ensures.value
    c.in-Some.item c.in-Some.is _ (if-there _ (c.item_mut.follows.holds c.in-Some.item.now) c.in-Some.is))

pub item_mut-requires-clause-table : goal.item_mut-requires-clause-table
item_mut-requires-clause-table g c κs = (rw (← c.site.view_is) at c.requires.taken.stays).hand

pub item_mut-requires-clause-place : goal.item_mut-requires-clause-place
item_mut-requires-clause-place g c κs = rw (← c.site.view_is, ← c.taken.view_is) at c.requires.taken.ready.is.place
