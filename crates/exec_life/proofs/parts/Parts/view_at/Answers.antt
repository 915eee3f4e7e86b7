use Rattle.exec_life.specs.Parts.{lists_of}
use Rattle.exec_life.proofs.Puts.{hand-view, knows-place}
use Rattle.exec_life.proofs.parts.Parts.view_at.Goals as goal

pub returns-clause-view : goal.returns-clause-view
returns-clause-view c =
    let ready = c.requires.ready in
    (hand-view (lists_of c.args.self.now) c.args.hand c.index.result.now ready.state ready.hand_is
    c.index.ensures).view_is

pub returns-clause-knows : goal.returns-clause-knows
returns-clause-knows c =
    let d = lists_of c.args.self.now in
    let v = c.index.result.now in
    let ready = c.requires.ready in
    let has = hand-view d c.args.hand v ready.state ready.hand_is c.index.ensures in
    knows-place d c.args.hand v c.args.place has c.requires.place
