use Rattle.std.proofs.Common.{Some, None, ap, ◌∙◌, subst}
use Rattle.std.specs.Option.{option_copied_mut}
use Rattle.table_steps.specs.Swaps.{IsSwapped}
use Rattle.op_slot.proofs.Loans.{if-there}
use Rattle.step_parts.proofs.Emptied.{kid-home, kid-done, takes-child}
use Rattle.step_parts.proofs.taking.take_child.Goals as goal

pub home_mut-requires-clause-home : goal.home_mut-requires-clause-home
home_mut-requires-clause-home g c κs =
    kid-home c.site.inside.table.now _ c.args.child (rw (← c.site.view_is, ← c.taken.view_is) at c.requires.child) c.args.hand.now
    (rw (← c.site.view_is, ← c.taken.view_is) at c.requires.opened)

pub take_done-parcel-requires : goal.take_done-parcel-requires
take_done-parcel-requires g c =
    kid-done c.site.inside.table.now _ c.args.child (rw (← c.site.view_is, ← c.taken.view_is) at c.requires.child) c.args.hand.now
    (rw (← c.site.view_is, ← c.taken.view_is) at c.requires.opened) c.in-Some-home.item
    (c.home_mut.ensures.value ∙ ap (λ z. option_copied_mut z) c.in-Some.is ∙ ap (λ z. Some z) c.in-Some-home.is)

pub returns-in-Some-home : goal.returns-in-Some-home
returns-in-Some-home g c =
    let left = if-there _ (c.home_mut.follows.holds None) c.in-Some.is in
    let hand = c.home_mut.follows.lender None in
    rw (c.empty.ensures, ← c.site.view_is, ← c.taken.view_is)
    (takes-child c.site.inside.table.now _ c.args.child (rw (← c.site.view_is, ← c.taken.view_is) at c.requires.child)
    (Some c.take_done-parcel.result) c.args.hand.now hand left.stays
    (subst (λ z. IsSwapped c.site.inside.table.now.frame (record c.taken.inside.name { node = c.args.child }) None z c.args.hand.now.me hand.me)
    (c.in-Some-home.is ∙ ap (λ z. Some z) c.take_done-parcel.ensures.taken) left.swapped)
    c.take_done-parcel.ensures.lawful)

pub returns-in-None-home : goal.returns-in-None-home
returns-in-None-home g c =
    let left = if-there _ (c.home_mut.follows.holds c.in-Some.home.now) c.in-Some.is in
    let hand = c.home_mut.follows.lender c.in-Some.home.now in
    rw (← c.site.view_is, ← c.taken.view_is)
    (takes-child c.site.inside.table.now _ c.args.child (rw (← c.site.view_is, ← c.taken.view_is) at c.requires.child) None c.args.hand.now hand
    left.stays
    (subst (λ z. IsSwapped c.site.inside.table.now.frame (record c.taken.inside.name { node = c.args.child }) z z c.args.hand.now.me hand.me)
    c.in-None-home.is left.swapped)
    tt)

pub home_mut-requires-clause-table : goal.home_mut-requires-clause-table
home_mut-requires-clause-table g c κs = (rw (← c.site.view_is) at c.requires.opened.is.stays).hand
