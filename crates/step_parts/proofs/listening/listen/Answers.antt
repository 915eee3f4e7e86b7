use Rattle.std.proofs.Common.{false, refl, ap, ◌∙◌}
use Rattle.std.specs.Prelude.{is_some}
use Rattle.step_parts.proofs.Listened.{near-is, armed-keeps, armed-listens, armed-idle, deaf-keeps, deaf-listens}
use Rattle.step_parts.proofs.Asked.{idle-here}
use Rattle.step_parts.proofs.listening.listen.Goals as goal

pub returns-in-Some-clause-keeps : goal.returns-in-Some-clause-keeps
returns-in-Some-clause-keeps g c =
    rw (← c.site.view_is, ← c.taken.view_is)
    (armed-keeps c.site.inside.table.now _ c.arm-armed.result c.args.hand.now c.arm-armed.new.hand c.arm-armed.ensures.armed c.arm-armed.ensures.stays)

pub returns-in-Some-clause-listens : goal.returns-in-Some-clause-listens
returns-in-Some-clause-listens g c =
    rw (← c.site.view_is, ← c.taken.view_is)
    (armed-listens c.site.inside.table.now _ c.arm-armed.result c.args.hand.now c.arm-armed.new.hand c.arm-armed.ensures.armed
    (rw (← c.site.view_is, ← c.taken.view_is) at c.requires.taken)
    (ap is_some
    (near-is c.site.inside.table.now c.taken.inside.name c.tree.result.now c.source_above.result c.tree.ensures.tree c.source_above.ensures.nearest
    ∙ c.in-Some.is))
    c.is_asked.result c.is_asked.ensures)

pub returns-in-Some-clause-idle : goal.returns-in-Some-clause-idle
returns-in-Some-clause-idle g c =
    rw (← c.taken.view_is)
    (armed-idle c.site.inside.table.now (record { name = c.taken.inside.name; start = c.args.taken.now.start; from = c.args.taken.now.from })
    c.arm-armed.result c.args.hand.now c.arm-armed.new.hand c.arm-armed.ensures.armed)

pub returns-in-None-clause-keeps : goal.returns-in-None-clause-keeps
returns-in-None-clause-keeps g c =
    rw (← c.site.view_is, ← c.taken.view_is)
    (deaf-keeps c.site.inside.table.now _ c.args.hand.now (rw (← c.site.view_is, ← c.taken.view_is) at c.requires.taken)
    (near-is c.site.inside.table.now c.taken.inside.name c.tree.result.now c.source_above.result c.tree.ensures.tree c.source_above.ensures.nearest
    ∙ c.in-None.is))

pub returns-in-None-clause-idle : goal.returns-in-None-clause-idle
returns-in-None-clause-idle g c = idle-here c.args.taken.now.name c.args.hand.now.me

pub arm-armed-requires-clause-table : goal.arm-armed-requires-clause-table
arm-armed-requires-clause-table g c κs = (rw (← c.site.view_is) at c.requires.taken.stays).hand

pub returns-in-None-clause-listens : goal.returns-in-None-clause-listens
returns-in-None-clause-listens g c =
    rw (← c.site.view_is, ← c.taken.view_is)
    (deaf-listens c.site.inside.table.now _ c.args.hand.now (rw (← c.site.view_is, ← c.taken.view_is) at c.requires.taken)
    (near-is c.site.inside.table.now c.taken.inside.name c.tree.result.now c.source_above.result c.tree.ensures.tree c.source_above.ensures.nearest
    ∙ c.in-None.is)
    false refl)
