use Rattle.exec_bulk.proofs.Places.{kind-behind, kind-parts}
use Rattle.exec_bulk.proofs.opening.gather_part.Goals as goal

pub first_part-requires : goal.first_part-requires
first_part-requires g c =
    kind-behind c.args.site.now c.args.taken.now.name c.name.result c.name.ensures c.requires.kind c.requires.opened.is.site

pub gather_child-requires-clause-child : goal.gather_child-requires-clause-child
gather_child-requires-clause-child g c =
    kind-parts c.args.site.now c.args.taken.now.name c.name.result c.name.ensures c.requires.kind c.requires.opened.is.site c.first_part.result
    c.args.part c.first_part.ensures c.requires.part
