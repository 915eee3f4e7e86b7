use Rattle.std.proofs.Common.{refl}
use Rattle.step_parts.proofs.Begun.{can-begin, awaits-child}
use Rattle.step_parts.proofs.starting.go_below.Goals as goal

pub begin_child-requires-clause-needs : goal.begin_child-requires-clause-needs
begin_child-requires-clause-needs g c κs =
    rw (c.starting.ensures, c.below-below.ensures, ← c.taken.view_is)
    (can-begin _ _ _ _ _ _ (rw (← c.site.view_is, ← c.taken.view_is) at c.requires.may) (rw (← c.site.view_is, ← c.taken.view_is) at c.requires.lies))

pub returns : goal.returns
returns g c =
    rw (← c.site.view_is, ← c.taken.view_is)
    (awaits-child _ _ _ _ _ _ (rw (← c.site.view_is, ← c.taken.view_is) at c.requires.may) (rw (← c.site.view_is, ← c.taken.view_is) at c.requires.lies)
    _ c.begin_child.ensures.stays (rw (c.starting.ensures, c.below-below.ensures, ← c.taken.view_is) at c.begin_child.ensures.begins) _ refl)

pub begin_child-requires-clause-table : goal.begin_child-requires-clause-table
begin_child-requires-clause-table g c κs = (rw (← c.site.view_is) at c.requires.may.taken.stays).hand

pub begin_child-requires-clause-place : goal.begin_child-requires-clause-place
begin_child-requires-clause-place g c κs = rw (← c.site.view_is, ← c.taken.view_is) at c.requires.may.taken.ready.is.place
