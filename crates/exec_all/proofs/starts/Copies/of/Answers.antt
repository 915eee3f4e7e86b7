use Rattle.std.specs.Prelude.{Some}
use Rattle.op_slot.proofs.Loans.{if-there}
use Rattle.step_parts.proofs.Changing.{taken-home, lent-keeps}
use Rattle.step_parts.proofs.Swapping.{swap-held}
use Rattle.exec_all.proofs.starts.Copies.of.Goals as goal

pub item_mut-requires-clause-table : goal.item_mut-requires-clause-table
item_mut-requires-clause-table g c κs = rw (← c.site.view_is) at c.requires.taken.stays.hand

pub item_mut-requires-clause-place : goal.item_mut-requires-clause-place
item_mut-requires-clause-place g c κs = rw c.name.ensures (rw (← c.site.view_is) at c.requires.taken.ready.is.place)

pub item_mut-requires-clause-home : goal.item_mut-requires-clause-home
item_mut-requires-clause-home g c κs = rw c.name.ensures (taken-home _ _ _ (rw (← c.site.view_is) at c.requires.taken))

pub returns-clause-keeps : goal.returns-clause-keeps
returns-clause-keeps g c =
    rw (← c.site.view_is)
    (lent-keeps _ _ _ (rw (← c.site.view_is) at c.requires.taken) c.item_mut.result (rw c.name.ensures at c.item_mut.ensures.value)
    c.in-Some.item c.in-Some.is _
    (rw c.name.ensures at (if-there _ (c.item_mut.follows.holds c.in-Some.item.now) c.in-Some.is)))

pub returns-clause-same_held : goal.returns-clause-same_held
returns-clause-same_held g c =
    swap-held c.site.inside.table.now c.args.taken.now.name c.name.result (Some c.in-Some.item.now) (Some c.in-Some.item.now)
    c.args.hand.now.me (c.item_mut.follows.lender c.in-Some.item.now).me
    (if-there _ (c.item_mut.follows.holds c.in-Some.item.now) c.in-Some.is).swapped
