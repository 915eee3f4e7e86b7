use Rattle.exec_life.specs.ViewLists.{AreBlankViews}
use Rattle.exec_life.proofs.view.blank_views.Given as goal

abbrev pub invariant-loop-hand : goal.invariant-loop-hand
invariant-loop-hand l = AreBlankViews l.blocks l.nodes l.hand l.views.items
