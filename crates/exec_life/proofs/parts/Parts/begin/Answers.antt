use Rattle.std.proofs.lemmas.Bool.{and_parts}
use Rattle.life_rules.specs.States.{is_place}
use Rattle.exec_life.specs.Parts.{lists_of, shown}
use Rattle.exec_life.proofs.Puts.{hand-view, knows-place}
use Rattle.exec_life.proofs.LifeMeans.{begin-means}
use Rattle.exec_life.proofs.parts.Parts.begin.Goals as goal

pub returns : goal.returns
returns c =
    let d = lists_of c.args.self.now in
    let v = c.index_mut.result.now in
    let has = hand-view d c.args.hand v c.requires.ready.state c.requires.ready.hand_is c.index_mut.ensures.value in
    begin-means d c.set_control.new.self c.args.hand v c.set_role.new.self c.args.place has c.requires.needs
    c.set_control.ensures c.set_role.ensures

pub set_role-requires : goal.set_role-requires
set_role-requires c =
    let d = lists_of c.args.self.now in
    let v = c.index_mut.result.now in
    let ready = c.requires.ready in
    let has = hand-view d c.args.hand v ready.state ready.hand_is c.index_mut.ensures.value in
    knows-place d c.args.hand v c.args.place has
    (and_parts (is_place (shown c.args.self.now) c.args.place) _ c.requires.needs).0
