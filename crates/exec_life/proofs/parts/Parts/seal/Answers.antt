use Rattle.exec_life.specs.Parts.{lists_of}
use Rattle.exec_life.proofs.ScopeMeans.{scope-means}
use Rattle.exec_life.proofs.parts.Parts.seal.Goals as goal

pub returns : goal.returns
returns c =
    scope-means (lists_of c.args.self.now) c.set_scope.new.self _ c.requires
    (rw c.scope-word.ensures at c.set_scope.ensures)
