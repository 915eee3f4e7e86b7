use Rattle.std.proofs.Common.{◌+◌, sym, ap, arith}
use Rattle.std.proofs.lemmas.Bool.{and_parts}
use Rattle.life_rules.specs.States.{is_place}
use Rattle.exec_life.specs.Parts.{lists_of, shown}
use Rattle.exec_life.proofs.Puts.{hand-view, knows-place}
use Rattle.exec_life.proofs.Sources.{run-source, runs-none}
use Rattle.exec_life.proofs.Bounds.{end-most}
use Rattle.exec_life.proofs.StopMeans.{knows-source}
use Rattle.exec_life.proofs.ScanMeans.{run-means, pass-means}
use Rattle.exec_life.proofs.parts.Parts.run.Goals as goal

pub set_runs-requires : goal.set_runs-requires
set_runs-requires c =
    let d = lists_of c.args.self.now in
    let v = c.index_mut.result.now in
    let has = hand-view d c.args.hand v c.requires.ready.state c.requires.ready.hand_is c.index_mut.ensures.value in
    knows-place d c.args.hand v c.args.place has
    (and_parts (is_place (shown c.args.self.now) c.args.place) _ c.requires.needs).0

pub overflow_add-next : goal.overflow_add-next
overflow_add-next c =
    let most = end-most (lists_of c.args.self.now) c.requires.ready.state in
    omega (arith, c.index-next.ensures.within, most)

pub set_scan-requires : goal.set_scan-requires
set_scan-requires c =
    let d = lists_of c.args.self.now in
    let v = c.index_mut-else-is_armed.result.now in
    let has = hand-view d c.args.hand v c.requires.ready.state c.requires.ready.hand_is c.index_mut-else-is_armed.ensures.value in
    knows-source d c.args.hand v c.args.source has
    (run-source (shown c.args.self.now) c.args.hand c.args.source c.args.place c.requires.needs)

pub returns-then-is_armed : goal.returns-then-is_armed
returns-then-is_armed c =
    let d = lists_of c.args.self.now in
    let v = c.index_mut.result.now in
    let has = hand-view d c.args.hand v c.requires.ready.state c.requires.ready.hand_is c.index_mut.ensures.value in
    run-means d c.args.hand v c.set_runs.new.self has c.set_callback.new.self c.args.source c.args.place
    (sym c.if-is_armed.ensures) (runs-none (shown c.args.self.now) c.args.hand c.args.source c.args.place c.requires.needs)
    c.set_callback.ensures c.set_runs.ensures

pub returns-else-is_armed : goal.returns-else-is_armed
returns-else-is_armed c =
    let d = lists_of c.args.self.now in
    let v = c.index_mut-else-is_armed.result.now in
    let has = hand-view d c.args.hand v c.requires.ready.state c.requires.ready.hand_is c.index_mut-else-is_armed.ensures.value in
    pass-means d c.args.hand v c.set_scan.new.self has c.args.source c.args.place _ (sym c.if-is_armed.ensures)
    (ap (λ k. k + 1) c.index-next.ensures.number) c.set_scan.ensures
