use Rattle.std.proofs.Common.{◌<◌, ap, sym, subst, ◌∙◌}
use Rattle.std.proofs.lemmas.Bool.{and_parts}
use Rattle.life_rules.specs.declared.event.Place.{Place}
use Rattle.life_rules.specs.States.{is_place}
use Rattle.life_rules.specs.Words.{one_less, pending}
use Rattle.exec_life.specs.declared.view.Role.TheVariants.{Nothing}
use Rattle.exec_life.specs.Parts.{lists_of, shown}
use Rattle.exec_life.proofs.Places.{node-within, has-place}
use Rattle.exec_life.proofs.Puts.{hand-view, knows-place, still-knows}
use Rattle.exec_life.proofs.ReportMeans.{report-means, last_report-means, parent-there, no_report-means}
use Rattle.exec_life.proofs.Roles.{role-cells}
use Rattle.exec_life.proofs.parts.Parts.report.Goals as goal

pub parent-requires : goal.parent-requires
parent-requires c =
    let d = lists_of c.args.self.now in
    node-within d c.args.place
    (and_parts (is_place (shown c.args.self.now) c.args.place) _ c.requires.needs).0

pub returns-in_default : goal.returns-in_default
returns-in_default c =
    no_report-means (lists_of c.args.self.now) c.args.hand c.args.place c.requires.ready.state
    (sym c.parent.ensures ∙ c.in_default.is)

pub control-word-requires-clause-place : goal.control-word-requires-clause-place
control-word-requires-clause-place c =
    parent-there (lists_of c.args.self.now) c.args.hand c.args.place c.in-Some.node c.requires.ready.state c.requires.needs
    (sym c.in-Some.ensures)

pub set_control-requires : goal.set_control-requires
set_control-requires c =
    let d = lists_of c.args.self.now in
    let parent : Place = record { block = c.args.place.block; node = c.in-Some.node } in
    has-place d parent c.requires.ready.state
    (parent-there d c.args.hand c.args.place c.in-Some.node c.requires.ready.state c.requires.needs
    (sym c.in-Some.ensures))

pub index_mut-view-requires : goal.index_mut-view-requires
index_mut-view-requires c =
    subst (λ n. c.args.hand < n) (sym c.args.self.now.views.ok.0) c.requires.ready.hand_is

pub set_role-requires : goal.set_role-requires
set_role-requires c =
    let d = lists_of c.args.self.now in
    let v = c.index_mut-view.result.now in
    let has = hand-view d c.args.hand v c.requires.ready.state c.requires.ready.hand_is c.index_mut-view.ensures.value in
    knows-place d c.args.hand v c.args.place has
    (and_parts (is_place (shown c.args.self.now) c.args.place) _ c.requires.needs).0

pub set_role-requires-then-pending-eq1 : goal.set_role-requires-then-pending-eq1
set_role-requires-then-pending-eq1 c =
    let d = lists_of c.args.self.now in
    let v = c.index_mut-view.result.now in
    let p = c.args.place in
    let q = c.in-Some.node in
    let has = hand-view d c.args.hand v c.requires.ready.state c.requires.ready.hand_is c.index_mut-view.ensures.value in
    let parent : Place = record { block = p.block; node = q } in
    still-knows v c.set_role.new.self parent
    (role-cells v c.set_role.new.self p.block p.node Nothing c.set_role.ensures)
    (knows-place d c.args.hand v parent has
    (parent-there d c.args.hand p q c.requires.ready.state c.requires.needs (sym c.in-Some.ensures)))

pub returns-then-pending-eq1 : goal.returns-then-pending-eq1
returns-then-pending-eq1 c =
    let d = lists_of c.args.self.now in
    let v = c.index_mut-view.result.now in
    let has = hand-view d c.args.hand v c.requires.ready.state c.requires.ready.hand_is c.index_mut-view.ensures.value in
    let word = c.one_less.ensures ∙ ap one_less c.control-word.ensures in
    let only = ap pending (sym c.control-word.ensures) ∙ sym c.pending.ensures ∙ c.if-pending-eq1.true in
    last_report-means d c.set_control.new.self c.args.hand v c.set_role.new.self c.args.place c.in-Some.node has
    c.requires.needs (sym c.in-Some.ensures) (rw word at c.set_control.ensures) c.set_role.ensures
    c.set_role-then-pending-eq1.new.self only c.set_role-then-pending-eq1.ensures

pub returns-else-pending-eq1 : goal.returns-else-pending-eq1
returns-else-pending-eq1 c =
    let d = lists_of c.args.self.now in
    let v = c.index_mut-view.result.now in
    let has = hand-view d c.args.hand v c.requires.ready.state c.requires.ready.hand_is c.index_mut-view.ensures.value in
    let word = c.one_less.ensures ∙ ap one_less c.control-word.ensures in
    report-means d c.set_control.new.self c.args.hand v c.set_role.new.self c.args.place c.in-Some.node has
    c.requires.needs (sym c.in-Some.ensures) (rw word at c.set_control.ensures) c.set_role.ensures
    (λ only. c.if-pending-eq1.false (c.pending.ensures ∙ ap pending c.control-word.ensures ∙ only))
