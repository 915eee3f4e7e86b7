use Rattle.std.proofs.Common.{arith}
use Rattle.exec_life.specs.Parts.{lists_of}
use Rattle.exec_life.proofs.Puts.{hand-view}
use Rattle.exec_life.proofs.ScopeMeans.{few-associations, mark_used-means}
use Rattle.exec_life.proofs.parts.Parts.mark_used.Goals as goal

pub finish_making-requires : goal.finish_making-requires
finish_making-requires c =
    let d = lists_of c.args.self.now in
    let v = c.index_mut.result.now in
    let has = hand-view d c.args.hand v c.requires.ready.state c.requires.ready.hand_is c.index_mut.ensures.value in
    let few = few-associations d c.args.hand v has in
    omega (arith, few.0, few.1)

pub returns : goal.returns
returns c =
    let d = lists_of c.args.self.now in
    let v = c.index_mut.result.now in
    let has = hand-view d c.args.hand v c.requires.ready.state c.requires.ready.hand_is c.index_mut.ensures.value in
    mark_used-means d c.set_scope.new.self c.args.hand v c.finish_making.new.self has
    (rw c.scope-word.ensures at c.set_scope.ensures) c.finish_making.ensures
