use Rattle.step_parts.specs.Takes.{Keeps}
use Rattle.step_parts.proofs.Ended.{keeps-then, taken-on}
use Rattle.step_parts.proofs.Settled.{read-keeps, read-settles, may-withdraw}
use Rattle.step_parts.proofs.settling.settle.Goals as goal

pub remove-requires-clause-taken : goal.remove-requires-clause-taken
remove-requires-clause-taken g c =
    let read : Keeps c.args.site.now c.args.taken.now c.args.hand.now c.phase_of-phase.new.hand =
    rw (← c.site.view_is, ← c.taken.view_is)
    (read-keeps c.site.inside.table.now _ c.phase_of-phase.result c.args.hand.now c.phase_of-phase.new.hand
    (rw (← c.site.view_is, ← c.taken.view_is) at c.requires.taken) c.phase_of-phase.ensures.phase c.phase_of-phase.ensures.stays) in
    taken-on c.args.site.now c.args.taken.now c.args.hand.now c.phase_of-phase.new.hand read c.requires.taken

pub remove-requires-clause-may : goal.remove-requires-clause-may
remove-requires-clause-may g c =
    rw (← c.taken.view_is)
    (may-withdraw c.site.inside.table.now _ c.phase_of-phase.result c.args.hand.now c.phase_of-phase.new.hand
    (rw (← c.site.view_is, ← c.taken.view_is) at c.requires.taken) c.phase_of-phase.ensures.phase c.phase_of-phase.ensures.stays
    (c.must_withdraw.ensures.yes c.if-must_withdraw.true))

pub returns-then-must_withdraw-clause-keeps : goal.returns-then-must_withdraw-clause-keeps
returns-then-must_withdraw-clause-keeps g c =
    let read : Keeps c.args.site.now c.args.taken.now c.args.hand.now c.phase_of-phase.new.hand =
    rw (← c.site.view_is, ← c.taken.view_is)
    (read-keeps c.site.inside.table.now _ c.phase_of-phase.result c.args.hand.now c.phase_of-phase.new.hand
    (rw (← c.site.view_is, ← c.taken.view_is) at c.requires.taken) c.phase_of-phase.ensures.phase c.phase_of-phase.ensures.stays) in
    keeps-then c.args.site.now c.args.taken.now c.args.hand.now c.phase_of-phase.new.hand c.remove.new.hand read c.remove.ensures.keeps

pub returns-else-must_withdraw-clause-keeps : goal.returns-else-must_withdraw-clause-keeps
returns-else-must_withdraw-clause-keeps g c =
    rw (← c.site.view_is, ← c.taken.view_is)
    (read-keeps c.site.inside.table.now _ c.phase_of-phase.result c.args.hand.now c.phase_of-phase.new.hand
    (rw (← c.site.view_is, ← c.taken.view_is) at c.requires.taken) c.phase_of-phase.ensures.phase c.phase_of-phase.ensures.stays)

pub returns-else-must_withdraw-clause-settled : goal.returns-else-must_withdraw-clause-settled
returns-else-must_withdraw-clause-settled g c =
    rw (← c.taken.view_is)
    (read-settles c.site.inside.table.now _ c.phase_of-phase.result c.args.hand.now c.phase_of-phase.new.hand
    (rw (← c.site.view_is, ← c.taken.view_is) at c.requires.taken) c.phase_of-phase.ensures.phase
    (c.must_withdraw.ensures.no c.if-must_withdraw.false))

pub phase_of-phase-requires-clause-table : goal.phase_of-phase-requires-clause-table
phase_of-phase-requires-clause-table g c κs = (rw (← c.site.view_is) at c.requires.taken.stays).hand
