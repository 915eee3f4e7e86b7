use Rattle.std.proofs.Common.{refl}
use Rattle.life_rules.specs.declared.event.Resting.TheVariants.{Parked as IsParked}
use Rattle.step_parts.proofs.Left.{leave-rests, leaves-at}
use Rattle.step_parts.proofs.leaving.leave_parked.Goals as goal

pub park-requires-clause-needs : goal.park-requires-clause-needs
park-requires-clause-needs g c κs =
    rw c.rest-name.ensures.name
    (leave-rests _ _ _ _ _ (rw (← c.site.view_is) at c.requires.may) (rw (← c.site.view_is) at c.rest-name.ensures.changes))

pub returns : goal.returns
returns g c =
    rw (← c.site.view_is)
    (leaves-at _ _ _ _ _ (rw (← c.site.view_is) at c.requires.may) (rw (← c.site.view_is) at c.rest-name.ensures.changes)
    IsParked _ _ refl c.park.ensures.stays (rw c.rest-name.ensures.name at c.park.ensures.rests))

pub park-requires-clause-table : goal.park-requires-clause-table
park-requires-clause-table g c κs = (rw (← c.site.view_is) at c.rest-name.ensures.changes.stays).hand
