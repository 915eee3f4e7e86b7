use Rattle.std.proofs.Common.{Some, subst}
use Rattle.table_steps.specs.Swaps.{IsSwapped}
use Rattle.op_slot.proofs.Loans.{if-there}
use Rattle.step_parts.proofs.Unkept.{open-home, takes-kept}
use Rattle.step_parts.proofs.taking.take_kept.Goals as goal

pub item_mut-requires-clause-home : goal.item_mut-requires-clause-home
item_mut-requires-clause-home g c κs =
    open-home c.site.inside.table.now _ c.args.hand.now (rw (← c.site.view_is, ← c.taken.view_is) at c.requires.opened)

pub returns : goal.returns
returns g c =
    let left = if-there _ (c.item_mut.follows.holds c.take_kept.new.self) c.in-Some.is in
    let hand = c.item_mut.follows.lender c.take_kept.new.self in
    rw (← c.site.view_is, ← c.taken.view_is)
    (takes-kept c.site.inside.table.now _ c.in-Some.item.now c.args.hand.now hand left.stays
    (subst (λ z. IsSwapped c.site.inside.table.now.frame c.taken.inside.name (Some z) (Some c.in-Some.item.now) c.args.hand.now.me hand.me)
    c.take_kept.ensures.left left.swapped)
    c.take_kept.result c.take_kept.ensures.taken c.take_kept.ensures.lawful)

pub item_mut-requires-clause-table : goal.item_mut-requires-clause-table
item_mut-requires-clause-table g c κs = (rw (← c.site.view_is) at c.requires.opened.is.stays).hand

pub item_mut-requires-clause-place : goal.item_mut-requires-clause-place
item_mut-requires-clause-place g c κs = rw (← c.site.view_is, ← c.taken.view_is) at c.requires.opened.is.midway.place
