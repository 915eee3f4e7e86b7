use Rattle.std.proofs.lemmas.Bool.{and_parts}
use Rattle.life_rules.specs.States.{is_place}
use Rattle.exec_life.specs.Parts.{lists_of, shown}
use Rattle.exec_life.proofs.Puts.{hand-view, knows-place}
use Rattle.exec_life.proofs.StopMeans.{arm-means}
use Rattle.exec_life.proofs.parts.Parts.arm.Goals as goal

pub set_unlooked-requires : goal.set_unlooked-requires
set_unlooked-requires c =
    let d = lists_of c.args.self.now in
    let v = c.index_mut.result.now in
    let has = hand-view d c.args.hand v c.requires.ready.state c.requires.ready.hand_is c.index_mut.ensures.value in
    knows-place d c.args.hand v c.args.place has
    (and_parts (is_place (shown c.args.self.now) c.args.place) _ c.requires.needs).0

pub returns : goal.returns
returns c =
    let d = lists_of c.args.self.now in
    let v = c.index_mut.result.now in
    let has = hand-view d c.args.hand v c.requires.ready.state c.requires.ready.hand_is c.index_mut.ensures.value in
    arm-means d c.args.hand v c.set_unlooked.new.self has c.set_callback.new.self c.args.place
    c.set_callback.ensures c.set_unlooked.ensures
