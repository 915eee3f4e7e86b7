use Rattle.std.proofs.lemmas.Bool.{and_parts}
use Rattle.life_rules.specs.StopSteps.{is_source}
use Rattle.exec_life.specs.Parts.{lists_of, shown}
use Rattle.exec_life.proofs.Puts.{hand-view}
use Rattle.exec_life.proofs.StopMeans.{knows-source}
use Rattle.exec_life.proofs.ScanMeans.{seal_scan-means}
use Rattle.exec_life.proofs.parts.Parts.seal_scan.Goals as goal

pub set_scan-requires : goal.set_scan-requires
set_scan-requires c =
    let d = lists_of c.args.self.now in
    let v = c.index_mut.result.now in
    let has = hand-view d c.args.hand v c.requires.ready.state c.requires.ready.hand_is c.index_mut.ensures.value in
    knows-source d c.args.hand v c.args.source has
    (and_parts (is_source (shown c.args.self.now) c.args.source) _ c.requires.needs).0

pub returns : goal.returns
returns c =
    let d = lists_of c.args.self.now in
    let v = c.index_mut.result.now in
    let has = hand-view d c.args.hand v c.requires.ready.state c.requires.ready.hand_is c.index_mut.ensures.value in
    seal_scan-means d c.args.hand v c.set_scan.new.self has c.set_source.new.self c.args.source (rw c.bits-bits.ensures at c.set_source.ensures) c.set_scan.ensures
