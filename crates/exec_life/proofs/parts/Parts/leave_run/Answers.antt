use Rattle.std.proofs.Common.{◌+◌, false, sym, ap, arith}
use Rattle.std.proofs.lemmas.Bool.{and_parts}
use Rattle.life_rules.specs.States.{is_place}
use Rattle.exec_life.specs.Parts.{lists_of, shown}
use Rattle.exec_life.proofs.Puts.{hand-view, knows-place}
use Rattle.exec_life.proofs.StopMeans.{knows-source, knows-still}
use Rattle.exec_life.proofs.Bounds.{end-most}
use Rattle.exec_life.proofs.ScanMeans.{runs-rest, leave-means}
use Rattle.exec_life.proofs.parts.Parts.leave_run.Goals as goal

pub overflow_add-next : goal.overflow_add-next
overflow_add-next c =
    let most = end-most (lists_of c.args.self.now) c.requires.ready.state in
    omega (arith, c.index-next.ensures.within, most)

pub set_runs-requires : goal.set_runs-requires
set_runs-requires c =
    let d = lists_of c.args.self.now in
    let v = c.index_mut-view.result.now in
    let has = hand-view d c.args.hand v c.requires.ready.state c.requires.ready.hand_is c.index_mut-view.ensures.value in
    knows-place d c.args.hand v c.args.place has
    (and_parts (is_place (shown c.args.self.now) c.args.place) _ c.requires.needs).0

pub set_scan-requires : goal.set_scan-requires
set_scan-requires c =
    let d = lists_of c.args.self.now in
    let v = c.index_mut-view.result.now in
    let has = hand-view d c.args.hand v c.requires.ready.state c.requires.ready.hand_is c.index_mut-view.ensures.value in
    knows-still v c.set_runs.new.self c.in-Some.source
    (runs-rest v c.set_runs.new.self c.args.place.block c.args.place.node false c.set_runs.ensures)
    (knows-source d c.args.hand v c.in-Some.source has c.in-Some.ensures.exists)

pub returns-in-Some : goal.returns-in-Some
returns-in-Some c =
    let d = lists_of c.args.self.now in
    let v = c.index_mut-view.result.now in
    let has = hand-view d c.args.hand v c.requires.ready.state c.requires.ready.hand_is c.index_mut-view.ensures.value in
    leave-means d c.args.hand v c.set_runs.new.self has c.set_callback.new.self c.set_scan.new.self c.in-Some.source
    c.args.place c.args.phase _
    (sym c.in-Some.ensures.source) (ap (λ k. k + 1) c.index-next.ensures.number) c.set_callback.ensures c.set_runs.ensures c.set_scan.ensures
