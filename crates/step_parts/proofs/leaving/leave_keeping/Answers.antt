use Rattle.table_steps.specs.Takes.{resting_in}
use Rattle.step_parts.proofs.Left.{leave-rests, leaves-at}
use Rattle.step_parts.proofs.leaving.leave_keeping.Goals as goal

pub rest-requires-clause-needs : goal.rest-requires-clause-needs
rest-requires-clause-needs g c κs =
    rw c.rest_keeping-name.ensures.name
    (leave-rests _ _ _ _ _ (rw (← c.site.view_is) at c.requires.may) (rw (← c.site.view_is) at c.rest_keeping-name.ensures.changes))

pub returns : goal.returns
returns g c =
    rw (← c.site.view_is)
    (leaves-at _ _ _ _ _ (rw (← c.site.view_is) at c.requires.may) (rw (← c.site.view_is) at c.rest_keeping-name.ensures.changes)
    (resting_in c.args.context) _ _ c.ready_in.ensures c.rest.ensures.stays (rw c.rest_keeping-name.ensures.name at c.rest.ensures.rests))

pub rest-requires-clause-table : goal.rest-requires-clause-table
rest-requires-clause-table g c κs = (rw (← c.site.view_is) at c.rest_keeping-name.ensures.changes.stays).hand
