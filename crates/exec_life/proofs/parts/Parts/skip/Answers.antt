use Rattle.std.proofs.Common.{◌+◌, ◌*◌, ap}
use Rattle.exec_life.specs.Parts.{lists_of}
use Rattle.exec_life.proofs.Puts.{hand-view}
use Rattle.exec_life.proofs.ScanMeans.{skip-means}
use Rattle.exec_life.proofs.parts.Parts.skip.Goals as goal

pub returns : goal.returns
returns c =
    let d = lists_of c.args.self.now in
    let v = c.index_mut.result.now in
    let has = hand-view d c.args.hand v c.requires.ready.state c.requires.ready.hand_is c.index_mut.ensures.value in
    skip-means d c.args.hand v c.set_scan.new.self has c.args.block _ (ap (λ k. (c.args.block + 1) * k) c.size.ensures.size) c.set_scan.ensures
