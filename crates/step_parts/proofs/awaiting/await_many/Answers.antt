use Rattle.step_parts.proofs.Many.{many-can, awaits-many}
use Rattle.step_parts.proofs.awaiting.await_many.Goals as goal

pub await_children-requires-clause-needs : goal.await_children-requires-clause-needs
await_children-requires-clause-needs g c κs =
    rw c.rest-name.ensures.name
    (many-can _ _ _ _ _ _ (rw (← c.site.view_is) at c.requires.may) (rw (← c.site.view_is) at c.rest-name.ensures.changes))

pub returns : goal.returns
returns g c =
    rw (← c.site.view_is)
    (awaits-many _ _ _ _ _ _ (rw (← c.site.view_is) at c.requires.may) (rw (← c.site.view_is) at c.rest-name.ensures.changes) _
    c.await_children.ensures.stays (rw c.rest-name.ensures.name at c.await_children.ensures.awaits))

pub await_children-requires-clause-table : goal.await_children-requires-clause-table
await_children-requires-clause-table g c κs = (rw (← c.site.view_is) at c.rest-name.ensures.changes.stays).hand
