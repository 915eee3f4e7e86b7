use Rattle.std.specs.Prelude.{ℤ, List}
use Rattle.exec_bulk.proofs.Applying.{IsDoneTo}
use Rattle.exec_bulk.proofs.elements.fail_first.Given as goal

abbrev pub invariant-loop-place : goal.invariant-loop-place
invariant-loop-place g l = (made : List ℤ) × IsDoneTo (g.E.Element.job l.element) l.first l.numbers l.place made
