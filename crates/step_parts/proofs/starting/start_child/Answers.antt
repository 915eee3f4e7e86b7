use Rattle.std.proofs.Common.{inl, ◌≡◌, sym, ◌∙◌, arith, w64, to_z, of_z}
use Rattle.std.proofs.lemmas.Int.{to_z-of_z}
use Rattle.op_slot.proofs.Loans.{if-there}
use Rattle.step_parts.proofs.Changing.{taken-home}
use Rattle.step_parts.proofs.Copied.{int-alone}
use Rattle.step_parts.proofs.Lent.{copy-lies, copy-may, copy-starts, copy-wants, left-lies, left-may, left-starts}
use Rattle.step_parts.proofs.starting.start_child.Goals as goal

pub item_mut-requires-clause-home : goal.item_mut-requires-clause-home
item_mut-requires-clause-home g c κs = taken-home _ _ _ (rw (← c.site.view_is, ← c.taken.view_is) at c.requires.may).taken

pub go_below-requires-clause-may : goal.go_below-requires-clause-may
go_below-requires-clause-may g c =
    let same : to_z w64 (of_z w64 c.in-Some-one_int.number) ≡ c.in-Some-one_int.number = grind (arith, to_z-of_z) in
    let one = rw (same) at c.one-args.ensures in
    let copied = one ∙ int-alone _ c.in-Some-one_int.number (sym c.one_int.ensures ∙ c.in-Some-one_int.is) ∙ c.args-in-Some.ensures in
    rw (← c.site.view_is, ← c.taken.view_is)
    (left-may _ _ _ _ _ (rw (← c.site.view_is, ← c.taken.view_is) at c.requires.may) c.item_mut.result c.item_mut.ensures.value
    c.in-Some.item c.in-Some.is c.rest.new.self c.rest.ensures _ (if-there _ (c.item_mut.follows.holds c.rest.new.self) c.in-Some.is)
    _ copied (rw (← c.taken.view_is) at c.requires.idle))

pub go_below-requires-clause-lies : goal.go_below-requires-clause-lies
go_below-requires-clause-lies g c =
    rw (← c.site.view_is, ← c.taken.view_is)
    (left-lies _ _ _ _ _ (rw (← c.site.view_is, ← c.taken.view_is) at c.requires.may) c.item_mut.result c.item_mut.ensures.value
    c.in-Some.item c.in-Some.is c.rest.new.self c.rest.ensures _ (if-there _ (c.item_mut.follows.holds c.rest.new.self) c.in-Some.is))

pub go_on_apart-requires-clause-may : goal.go_on_apart-requires-clause-may
go_on_apart-requires-clause-may g c =
    rw (← c.site.view_is, ← c.taken.view_is)
    (copy-may _ _ _ _ _ (rw (← c.site.view_is, ← c.taken.view_is) at c.requires.may) c.item_mut.result c.item_mut.ensures.value
    c.in-Some.item c.in-Some.is c.copy_resting-copy.result c.copy_resting-copy.new.item c.copy_resting-copy.ensures.copies
    c.copy_resting-copy.ensures.rests c.copy_resting-copy.ensures.stays c.copy_resting-copy.ensures.in_place _
    (if-there _ (c.item_mut.follows.holds c.copy_resting-copy.new.item) c.in-Some.is)
    (rw (← c.taken.view_is) at c.requires.idle))

pub go_on_apart-requires-clause-lies : goal.go_on_apart-requires-clause-lies
go_on_apart-requires-clause-lies g c =
    rw (← c.site.view_is, ← c.taken.view_is)
    (copy-lies _ _ _ _ _ (rw (← c.site.view_is, ← c.taken.view_is) at c.requires.may) c.item_mut.result c.item_mut.ensures.value
    c.in-Some.item c.in-Some.is c.copy_resting-copy.result c.copy_resting-copy.new.item c.copy_resting-copy.ensures.copies
    c.copy_resting-copy.ensures.rests c.copy_resting-copy.ensures.stays c.copy_resting-copy.ensures.in_place _
    (if-there _ (c.item_mut.follows.holds c.copy_resting-copy.new.item) c.in-Some.is))

pub go_on_apart-requires-clause-wants : goal.go_on_apart-requires-clause-wants
go_on_apart-requires-clause-wants g c =
    rw (← c.site.view_is, ← c.taken.view_is)
    (copy-wants _ _ _ _ _ (rw (← c.site.view_is, ← c.taken.view_is) at c.requires.may) c.item_mut.result c.item_mut.ensures.value
    c.in-Some.item c.in-Some.is c.copy_resting-copy.result c.copy_resting-copy.new.item c.copy_resting-copy.ensures.copies
    c.copy_resting-copy.ensures.rests c.copy_resting-copy.ensures.stays c.copy_resting-copy.ensures.in_place _
    (if-there _ (c.item_mut.follows.holds c.copy_resting-copy.new.item) c.in-Some.is)
    (rw (← c.site.view_is, ← c.taken.view_is) at c.requires.inner))

pub returns-in-Some-one_int : goal.returns-in-Some-one_int
returns-in-Some-one_int g c =
    let same : to_z w64 (of_z w64 c.in-Some-one_int.number) ≡ c.in-Some-one_int.number = grind (arith, to_z-of_z) in
    let one = rw (same) at c.one-args.ensures in
    let copied = one ∙ int-alone _ c.in-Some-one_int.number (sym c.one_int.ensures ∙ c.in-Some-one_int.is) ∙ c.args-in-Some.ensures in
    rw (← c.site.view_is, ← c.taken.view_is)
    (inl (left-starts _ _ _ _ _ (rw (← c.site.view_is, ← c.taken.view_is) at c.requires.may) c.item_mut.result c.item_mut.ensures.value
    c.in-Some.item c.in-Some.is c.rest.new.self c.rest.ensures _ (if-there _ (c.item_mut.follows.holds c.rest.new.self) c.in-Some.is)
    _ copied _ _ (rw (← c.site.view_is, ← c.taken.view_is) at c.go_below.ensures)))

pub returns-in-None-one_int : goal.returns-in-None-one_int
returns-in-None-one_int g c =
    rw (← c.site.view_is, ← c.taken.view_is)
    (copy-starts _ _ _ _ _ (rw (← c.site.view_is, ← c.taken.view_is) at c.requires.may) c.item_mut.result c.item_mut.ensures.value
    c.in-Some.item c.in-Some.is c.copy_resting-copy.result c.copy_resting-copy.new.item c.copy_resting-copy.ensures.copies
    c.copy_resting-copy.ensures.rests c.copy_resting-copy.ensures.stays c.copy_resting-copy.ensures.in_place _
    (if-there _ (c.item_mut.follows.holds c.copy_resting-copy.new.item) c.in-Some.is)
    _ _ (rw (← c.site.view_is, ← c.taken.view_is) at c.go_on_apart.ensures.awaits)
    (rw (← c.site.view_is, ← c.taken.view_is) at c.go_on_apart.ensures.ends))

pub item_mut-requires-clause-table : goal.item_mut-requires-clause-table
item_mut-requires-clause-table g c κs = (rw (← c.site.view_is) at c.requires.may.taken.stays).hand

pub item_mut-requires-clause-place : goal.item_mut-requires-clause-place
item_mut-requires-clause-place g c κs = rw (← c.site.view_is, ← c.taken.view_is) at c.requires.may.taken.ready.is.place
