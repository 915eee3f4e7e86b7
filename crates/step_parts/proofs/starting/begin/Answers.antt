use Rattle.op_slot.proofs.Loans.{if-there}
use Rattle.step_parts.proofs.Begun.{rest-lies, begin-still, begins-on}
use Rattle.step_parts.proofs.Changing.{taken-home, lent-rests}
use Rattle.step_parts.proofs.starting.begin.Goals as goal

pub item_mut-requires-clause-home : goal.item_mut-requires-clause-home
item_mut-requires-clause-home g c κs = taken-home _ _ _ (rw (← c.site.view_is, ← c.taken.view_is) at c.requires.may).taken

pub go_below-requires-clause-may : goal.go_below-requires-clause-may
go_below-requires-clause-may g c =
    let may = rw (← c.site.view_is, ← c.taken.view_is) at c.requires.may in
    rw (← c.site.view_is, ← c.taken.view_is)
    (begin-still _ _ _ _ _ _ _
    (lent-rests _ _ _ may.taken c.item_mut.result c.item_mut.ensures.value
    c.in-Some.item c.in-Some.is c.rest.new.self c.rest.ensures _ (if-there _ (c.item_mut.follows.holds c.rest.new.self) c.in-Some.is))
    may)

pub go_below-requires-clause-lies : goal.go_below-requires-clause-lies
go_below-requires-clause-lies g c =
    rw (← c.site.view_is, ← c.taken.view_is)
    (rest-lies _ _ c.args.child c.args.args c.args.asked _ _
    (lent-rests _ _ _ (rw (← c.site.view_is, ← c.taken.view_is) at c.requires.may).taken c.item_mut.result c.item_mut.ensures.value
    c.in-Some.item c.in-Some.is c.rest.new.self c.rest.ensures _ (if-there _ (c.item_mut.follows.holds c.rest.new.self) c.in-Some.is)))

pub returns : goal.returns
returns g c =
    rw (← c.site.view_is, ← c.taken.view_is)
    (begins-on _ _ _ _ _ _ _
    (lent-rests _ _ _ (rw (← c.site.view_is, ← c.taken.view_is) at c.requires.may).taken c.item_mut.result c.item_mut.ensures.value
    c.in-Some.item c.in-Some.is c.rest.new.self c.rest.ensures _ (if-there _ (c.item_mut.follows.holds c.rest.new.self) c.in-Some.is))
    _ _ (rw (← c.site.view_is, ← c.taken.view_is) at c.go_below.ensures))

pub item_mut-requires-clause-table : goal.item_mut-requires-clause-table
item_mut-requires-clause-table g c κs = (rw (← c.site.view_is) at c.requires.may.taken.stays).hand

pub item_mut-requires-clause-place : goal.item_mut-requires-clause-place
item_mut-requires-clause-place g c κs = rw (← c.site.view_is, ← c.taken.view_is) at c.requires.may.taken.ready.is.place
