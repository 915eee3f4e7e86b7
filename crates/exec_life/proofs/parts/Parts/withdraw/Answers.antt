use Rattle.std.proofs.Common.{◌<◌, sym, subst}
use Rattle.std.proofs.lemmas.Bool.{and_parts}
use Rattle.life_rules.specs.States.{is_place}
use Rattle.exec_life.specs.Parts.{lists_of, shown}
use Rattle.exec_life.proofs.Places.{has-place}
use Rattle.exec_life.proofs.Puts.{hand-view}
use Rattle.exec_life.proofs.StopMeans.{knows-source, withdraw-means, withdraw_seen-means}
use Rattle.exec_life.proofs.parts.Parts.withdraw.Goals as goal

pub set_seen-requires : goal.set_seen-requires
set_seen-requires c =
    let d = lists_of c.args.self.now in
    let v = c.index_mut.result.now in
    let has = hand-view d c.args.hand v c.requires.ready.state c.requires.ready.hand_is c.index_mut.ensures.value in
    knows-source d c.args.hand v c.in-Some.source has c.in-Some.ensures.exists

pub returns-then-is_armed : goal.returns-then-is_armed
returns-then-is_armed c =
    let d = lists_of c.args.self.now in
    withdraw-means d c.args.hand c.set_callback.new.self c.args.place c.requires.ready.state (sym c.if-is_armed.ensures)
    c.set_callback.ensures

pub returns-in-Some : goal.returns-in-Some
returns-in-Some c =
    let d = lists_of c.args.self.now in
    let v = c.index_mut.result.now in
    let has = hand-view d c.args.hand v c.requires.ready.state c.requires.ready.hand_is c.index_mut.ensures.value in
    withdraw_seen-means d c.args.hand v c.set_seen.new.self has c.in-Some.source c.args.place
    (sym c.if-is_armed.ensures) (sym c.in-Some.ensures.source) c.set_seen.ensures

pub set_callback-requires : goal.set_callback-requires
set_callback-requires c =
    has-place (lists_of c.args.self.now) c.args.place c.requires.ready.state
    (and_parts (is_place (shown c.args.self.now) c.args.place) _ c.requires.needs).0

pub index_mut-requires : goal.index_mut-requires
index_mut-requires c =
    subst (λ n. c.args.hand < n) (sym c.args.self.now.views.ok.0) c.requires.ready.hand_is
