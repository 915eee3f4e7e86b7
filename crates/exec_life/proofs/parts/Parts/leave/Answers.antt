use Rattle.std.proofs.Common.{◌-◌, ap, ◌∙◌}
use Rattle.exec_life.specs.Parts.{lists_of}
use Rattle.exec_life.proofs.Puts.{hand-view}
use Rattle.life_rules.specs.declared.scope.ScopeWord.{ScopeWord}
use Rattle.exec_life.proofs.ScopeMeans.{leave-means}
use Rattle.exec_life.proofs.parts.Parts.leave.Goals as goal

pub returns : goal.returns
returns c =
    let d = lists_of c.args.self.now in
    let v = c.index_mut.result.now in
    let has = hand-view d c.args.hand v c.requires.ready.state c.requires.ready.hand_is c.index_mut.ensures.value in
    leave-means d c.set_scope.new.self c.args.hand v c.drop_association.new.self has
    (c.set_scope.ensures
    ∙ ap (λ k. record c.args.self.now.words { scope = record c.scope-word.result { count = k } }) c.saturating_sub.ensures
    ∙ ap (λ (w : ScopeWord). record c.args.self.now.words { scope = record w { count = w.count - 1 } }) c.scope-word.ensures)
    c.drop_association.ensures
