use Rattle.step_parts.proofs.Settled.{withdraw-keeps, withdraw-settles}
use Rattle.step_parts.proofs.settling.remove.Goals as goal

pub returns-clause-keeps : goal.returns-clause-keeps
returns-clause-keeps g c =
    rw (← c.site.view_is, ← c.taken.view_is)
    (withdraw-keeps c.site.inside.table.now _ c.withdraw-settled.result c.args.hand.now c.withdraw-settled.new.hand
    (rw (← c.site.view_is, ← c.taken.view_is) at c.requires.taken) c.withdraw-settled.ensures.settled c.withdraw-settled.ensures.stays)

pub returns-clause-settled : goal.returns-clause-settled
returns-clause-settled g c =
    rw (← c.taken.view_is)
    (withdraw-settles c.site.inside.table.now _ c.withdraw-settled.result c.args.hand.now c.withdraw-settled.new.hand
    (rw (← c.site.view_is, ← c.taken.view_is) at c.requires.taken) c.withdraw-settled.ensures.settled)

pub withdraw-settled-requires-clause-table : goal.withdraw-settled-requires-clause-table
withdraw-settled-requires-clause-table g c κs within = (rw (← c.site.view_is) at c.requires.taken.stays).hand
