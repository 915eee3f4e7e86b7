use Rattle.std.proofs.Common.{ap}
use Rattle.std.proofs.lemmas.Bool.{and_parts}
use Rattle.life_rules.specs.States.{is_place}
use Rattle.exec_life.specs.Parts.{lists_of, shown}
use Rattle.exec_life.proofs.Puts.{hand-view, knows-place, still-knows}
use Rattle.life_rules.specs.declared.words.Bits.{Bits}
use Rattle.exec_life.proofs.Sources.{look-source}
use Rattle.exec_life.proofs.StopMeans.{knows-source, look-means, look_after-means}
use Rattle.exec_life.proofs.ViewMeans.{source-rest}
use Rattle.exec_life.proofs.parts.Parts.look.Goals as goal

pub bits-read-requires-clause-source : goal.bits-read-requires-clause-source
bits-read-requires-clause-source c =
    look-source (shown c.args.self.now) c.args.hand c.args.source c.args.after c.requires.needs

pub note-requires : goal.note-requires
note-requires c =
    let d = lists_of c.args.self.now in
    let v = c.index_mut-view.result.now in
    let has = hand-view d c.args.hand v c.requires.ready.state c.requires.ready.hand_is c.index_mut-view.ensures.value in
    knows-source d c.args.hand v c.args.source has
    (look-source (shown c.args.self.now) c.args.hand c.args.source c.args.after c.requires.needs)

pub look_after-requires : goal.look_after-requires
look_after-requires c =
    let d = lists_of c.args.self.now in
    let v = c.index_mut-view.result.now in
    let has = hand-view d c.args.hand v c.requires.ready.state c.requires.ready.hand_is c.index_mut-view.ensures.value in
    let may = rw c.in-Some.is at c.requires.needs in
    still-knows v c.note.new.self c.in-Some.place (source-rest v c.note.new.self c.args.source _ c.note.ensures)
    (knows-place d c.args.hand v c.in-Some.place has
    (and_parts (is_place (shown c.args.self.now) c.in-Some.place) _ may).0)

pub returns-in-Some : goal.returns-in-Some
returns-in-Some c =
    let d = lists_of c.args.self.now in
    let v = c.index_mut-view.result.now in
    let has = hand-view d c.args.hand v c.requires.ready.state c.requires.ready.hand_is c.index_mut-view.ensures.value in
    rw c.in-Some.is
    (look_after-means d c.args.hand v c.note.new.self has c.look_after.new.self c.args.source c.in-Some.place
    c.bits-read.result.requested (ap (λ (b : Bits). b.requested) c.bits-read.ensures) c.note.ensures c.look_after.ensures)

pub returns-in_default : goal.returns-in_default
returns-in_default c =
    let d = lists_of c.args.self.now in
    let v = c.index_mut-view.result.now in
    let has = hand-view d c.args.hand v c.requires.ready.state c.requires.ready.hand_is c.index_mut-view.ensures.value in
    rw c.in_default.is (look-means d c.args.hand v c.note.new.self has c.args.source
    c.bits-read.result.requested (ap (λ (b : Bits). b.requested) c.bits-read.ensures) c.note.ensures)
