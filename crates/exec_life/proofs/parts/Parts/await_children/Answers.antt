use Rattle.std.proofs.Common.{◌<◌, get_or, arith}
use Rattle.std.proofs.lemmas.Bool.{and_parts}
use Rattle.life_rules.specs.States.{size, is_place, name_at}
use Rattle.life_rules.specs.LifeSteps.{may_be_awaited}
use Rattle.exec_life.specs.declared.view.Role.TheVariants.{Nothing}
use Rattle.exec_life.specs.Parts.{lists_of, shown}
use Rattle.exec_life.proofs.Puts.{hand-view, knows-place}
use Rattle.exec_life.proofs.AwaitMeans.{await-means, few, child-within, awaited}
use Rattle.exec_life.proofs.Bounds.{tree-most}
use Rattle.exec_life.proofs.Roles.{role-cells}
use Rattle.exec_life.proofs.parts.Parts.await_children.Goals as goal
use Rattle.common_lemmas.proofs.Lists.{list_all-read}

pub overflow_cast-pending : goal.overflow_cast-pending
overflow_cast-pending c =
    let d = lists_of c.args.self.now in
    let v = c.index_mut-view.result.now in
    let has = hand-view d c.args.hand v c.requires.ready.state c.requires.ready.hand_is c.index_mut-view.ensures.value in
    let least = few d c.args.hand v c.args.place c.args.children.now has c.requires.needs in
    let most = tree-most d.tree c.requires.ready.state.sound.tree in
    omega (arith, least, most)

pub set_role-requires : goal.set_role-requires
set_role-requires c =
    let d = lists_of c.args.self.now in
    let v = c.index_mut-view.result.now in
    let has = hand-view d c.args.hand v c.requires.ready.state c.requires.ready.hand_is c.index_mut-view.ensures.value in
    knows-place d c.args.hand v c.args.place has
    (and_parts (is_place (shown c.args.self.now) c.args.place) _ c.requires.needs).0

pub owe_starts-requires-clause-block : goal.owe_starts-requires-clause-block
owe_starts-requires-clause-block c =
    let d = lists_of c.args.self.now in
    let v = c.index_mut-view.result.now in
    let p = c.args.place in
    let has = hand-view d c.args.hand v c.requires.ready.state c.requires.ready.hand_is c.index_mut-view.ensures.value in
    let knows = knows-place d c.args.hand v p has (and_parts (is_place (shown c.args.self.now) p) _ c.requires.needs).0 in
    let cells = role-cells v c.set_role.new.self p.block p.node Nothing c.set_role.ensures in
    omega (arith, knows.block, cells.blocks)

pub owe_starts-requires-clause-nodes : goal.owe_starts-requires-clause-nodes
owe_starts-requires-clause-nodes c k e within =
    let d = lists_of c.args.self.now in
    let s = shown c.args.self.now in
    let v = c.index_mut-view.result.now in
    let p = c.args.place in
    let nodes = c.args.children.now in
    let has = hand-view d c.args.hand v c.requires.ready.state c.requires.ready.hand_is c.index_mut-view.ensures.value in
    let all = awaited d c.args.hand v p nodes has c.requires.needs in
    let below : get_or nodes k e < size s =
    child-within d c.args.hand v p nodes has c.requires.needs (get_or nodes k e)
    (list_all-read (may_be_awaited s (name_at s p)) nodes k e within all) in
    let over = c.requires.ready.state.fitted.each_view c.args.hand v has.view_is in
    let cells = role-cells v c.set_role.new.self p.block p.node Nothing c.set_role.ensures in
    omega (arith, below, over.nodes_are, cells.nodes)

pub returns : goal.returns
returns c =
    let d = lists_of c.args.self.now in
    let v = c.index_mut-view.result.now in
    let has = hand-view d c.args.hand v c.requires.ready.state c.requires.ready.hand_is c.index_mut-view.ensures.value in
    await-means d c.args.hand v c.args.place c.args.children.now has c.requires.needs
    c.set_control.new.self c.set_role.new.self c.owe_starts.new.self
    c.set_control.ensures c.set_role.ensures c.owe_starts.ensures
