use Rattle.std.proofs.Common.{◌∙◌}
use Rattle.step_parts.proofs.Listened.{near-is, hear-keeps, hear-looks, hear-once, deaf-keeps, deaf-looks, deaf-once}
use Rattle.step_parts.proofs.hearing.hear.Goals as goal

pub returns-in-Some-clause-keeps : goal.returns-in-Some-clause-keeps
returns-in-Some-clause-keeps g c =
    rw (← c.site.view_is, ← c.taken.view_is)
    (hear-keeps c.site.inside.table.now _ c.in-Some.source c.stop_requested.result c.args.hand.now c.stop_requested.new.hand
    (near-is c.site.inside.table.now c.taken.inside.name c.tree.result.now c.source_above.result c.tree.ensures.tree c.source_above.ensures.nearest
    ∙ c.in-Some.is)
    c.stop_requested.ensures.looked c.stop_requested.ensures.stays)

pub returns-in-Some-clause-looked : goal.returns-in-Some-clause-looked
returns-in-Some-clause-looked g c =
    rw (← c.site.view_is, ← c.taken.view_is)
    (hear-looks c.site.inside.table.now _ c.in-Some.source c.stop_requested.result c.args.hand.now c.stop_requested.new.hand
    (near-is c.site.inside.table.now c.taken.inside.name c.tree.result.now c.source_above.result c.tree.ensures.tree c.source_above.ensures.nearest
    ∙ c.in-Some.is)
    c.stop_requested.ensures.looked (rw (← c.site.view_is, ← c.taken.view_is) at c.requires.taken) c.stop_requested.ensures.stands
    c.stop_requested.ensures.told)

pub returns-in-None-clause-keeps : goal.returns-in-None-clause-keeps
returns-in-None-clause-keeps g c =
    rw (← c.site.view_is, ← c.taken.view_is)
    (deaf-keeps c.site.inside.table.now _ c.args.hand.now (rw (← c.site.view_is, ← c.taken.view_is) at c.requires.taken)
    (near-is c.site.inside.table.now c.taken.inside.name c.tree.result.now c.source_above.result c.tree.ensures.tree c.source_above.ensures.nearest
    ∙ c.in-None.is))

pub returns-in-Some-clause-once : goal.returns-in-Some-clause-once
returns-in-Some-clause-once g c =
    rw (← c.site.view_is, ← c.taken.view_is)
    (hear-once c.site.inside.table.now (record { name = c.taken.inside.name; start = c.args.taken.now.start; from = c.args.taken.now.from }) c.in-Some.source c.stop_requested.result c.args.hand.now c.stop_requested.new.hand
    (near-is c.site.inside.table.now c.taken.inside.name c.tree.result.now c.source_above.result c.tree.ensures.tree c.source_above.ensures.nearest
    ∙ c.in-Some.is)
    c.stop_requested.ensures.looked)

pub returns-in-None-clause-once : goal.returns-in-None-clause-once
returns-in-None-clause-once g c =
    rw (← c.site.view_is, ← c.taken.view_is)
    (deaf-once c.site.inside.table.now _ c.args.hand.now (rw (← c.site.view_is, ← c.taken.view_is) at c.requires.taken)
    (near-is c.site.inside.table.now c.taken.inside.name c.tree.result.now c.source_above.result c.tree.ensures.tree c.source_above.ensures.nearest
    ∙ c.in-None.is))

pub stop_requested-requires-clause-table : goal.stop_requested-requires-clause-table
stop_requested-requires-clause-table g c κs = (rw (← c.site.view_is) at c.requires.taken.stays).hand

pub returns-in-None-clause-looked : goal.returns-in-None-clause-looked
returns-in-None-clause-looked g c =
    rw (← c.site.view_is, ← c.taken.view_is)
    (deaf-looks c.site.inside.table.now _ c.args.hand.now (rw (← c.site.view_is, ← c.taken.view_is) at c.requires.taken)
    (near-is c.site.inside.table.now c.taken.inside.name c.tree.result.now c.source_above.result c.tree.ensures.tree c.source_above.ensures.nearest
    ∙ c.in-None.is))
