use Rattle.std.proofs.Common.{ap, ◌∙◌, arith}
use Rattle.exec_life.specs.Parts.{lists_of}
use Rattle.exec_life.proofs.Puts.{hand-view}
use Rattle.life_rules.specs.declared.scope.ScopeWord.{ScopeWord}
use Rattle.life_rules.specs.Scopes.{is_refused}
use Rattle.exec_life.specs.ViewWrites.{with_one}
use Rattle.exec_life.proofs.ScopeMeans.{few-associations, enter-means}
use Rattle.exec_life.proofs.parts.Parts.enter.Goals as goal

pub add_association-requires : goal.add_association-requires
add_association-requires c =
    let d = lists_of c.args.self.now in
    let v = c.index_mut.result.now in
    let has = hand-view d c.args.hand v c.requires.ready.state c.requires.ready.hand_is c.index_mut.ensures.value in
    let few = few-associations d c.args.hand v has in
    omega (arith, few.0, few.1)

pub overflow_add-word : goal.overflow_add-word
overflow_add-word c =
    let d = lists_of c.args.self.now in
    let v = c.index_mut.result.now in
    let has = hand-view d c.args.hand v c.requires.ready.state c.requires.ready.hand_is c.index_mut.ensures.value in
    let few = few-associations d c.args.hand v has in
    omega (arith, few.1, ap (λ (w : ScopeWord). w.count) c.scope-word.ensures)

pub returns : goal.returns
returns c =
    let d = lists_of c.args.self.now in
    let v = c.index_mut.result.now in
    let has = hand-view d c.args.hand v c.requires.ready.state c.requires.ready.hand_is c.index_mut.ensures.value in
    enter-means d c.set_scope.new.self c.args.hand v c.add_association.new.self has
    (rw c.scope-word.ensures at c.set_scope.ensures)
    (c.add_association.ensures
    ∙ ap (λ b. with_one b c.scope-word.result.used v) c.is_refused-refused.ensures
    ∙ ap (λ (w : ScopeWord). with_one (is_refused w c.args.self.now.most) w.used v) c.scope-word.ensures)
