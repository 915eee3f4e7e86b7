use Rattle.op_slot.proofs.Loans.{if-there}
use Rattle.step_parts.proofs.Changing.{taken-home, lent-keeps}
use Rattle.step_parts.proofs.copying.copy_args.Goals as goal

pub item_mut-requires-clause-home : goal.item_mut-requires-clause-home
item_mut-requires-clause-home g c κs = taken-home _ _ _ (rw (← c.site.view_is, ← c.taken.view_is) at c.requires.taken)

pub returns-clause-keeps : goal.returns-clause-keeps
returns-clause-keeps g c =
    rw (← c.site.view_is, ← c.taken.view_is)
    (lent-keeps _ _ _ (rw (← c.site.view_is, ← c.taken.view_is) at c.requires.taken) c.item_mut.result c.item_mut.ensures.value
    c.in-Some.item c.in-Some.is _ (if-there _ (c.item_mut.follows.holds c.in-Some.item.now) c.in-Some.is))

pub item_mut-requires-clause-table : goal.item_mut-requires-clause-table
item_mut-requires-clause-table g c κs = (rw (← c.site.view_is) at c.requires.taken.stays).hand

pub item_mut-requires-clause-place : goal.item_mut-requires-clause-place
item_mut-requires-clause-place g c κs = rw (← c.site.view_is, ← c.taken.view_is) at c.requires.taken.ready.is.place
