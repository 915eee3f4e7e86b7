use Rattle.std.proofs.Common.{rules}
use Rattle.op_slot.proofs.Loans.{if-there}
use Rattle.step_parts.proofs.Opened.{own-home, takes-up}
use Rattle.step_parts.proofs.taking.take_up_top.Goals as goal

pub item_mut-requires-clause-home : goal.item_mut-requires-clause-home
item_mut-requires-clause-home g c κs = own-home c.site.inside.table.now c.args.name c.args.hand.now (rw (← c.site.view_is) at c.requires.may)

pub returns-clause-takes : goal.returns-clause-takes
returns-clause-takes g c =
    let left = if-there _ (c.item_mut.follows.holds c.in-Some.item.now) c.in-Some.is in
    rw (← c.site.view_is)
    (takes-up c.site.inside.table.now c.args.name c.args.hand.now (c.item_mut.follows.lender c.in-Some.item.now) c.in-Some.item.now
    (rw (← c.site.view_is) at c.requires.may) left.stays left.swapped c.known.ensures c.state.result c.state.ensures _ c.of.ensures _
    c.of-origin.ensures)

pub item_mut-requires-clause-table : goal.item_mut-requires-clause-table
item_mut-requires-clause-table g c κs = rw (← c.site.view_is) at c.requires.may.of

pub item_mut-requires-clause-place : goal.item_mut-requires-clause-place
item_mut-requires-clause-place g c κs = rw (← c.site.view_is) at c.requires.may.can.place

pub returns-clause-child : goal.returns-clause-child
returns-clause-child g c = search rules
