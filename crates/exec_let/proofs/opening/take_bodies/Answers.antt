use Rattle.std.specs.Prelude.{Option}
use Rattle.std.specs.Option.{option_map}
use Rattle.std.proofs.Common.{◌≡◌, ℕ, ◌+◌, List, take, get_or, sym, ap, ◌∙◌, subst, arith}
use Rattle.std.proofs.lemmas.List.{take_more, take_all}
use Rattle.home_items.specs.Parcels.{Delivery, delivery_of}
use Rattle.exec_let.specs.Opens.{TakesBodies}
use Rattle.exec_let.proofs.Emptied.{first_of, takes-nobody, takes-more}
use Rattle.step_parts.proofs.Several.{empties-open}
use Rattle.exec_let.proofs.opening.take_bodies.Goals as goal
use Rattle.exec_let.proofs.opening.take_bodies.Goals.{in-Some, in_default}

pub loop-body-init : goal.loop-body-init
loop-body-init g c = takes-nobody c.args.site.now c.args.taken.now c.args.hand.now c.requires.lies.is.stays.hand

pub take_child_into-requires-clause-child : goal.take_child_into-requires-clause-child
take_child_into-requires-clause-child g c = c.requires.children c.loop-body.body-index 0 c.loop-body-test.true

pub take_child_into-requires-clause-opened : goal.take_child_into-requires-clause-opened
take_child_into-requires-clause-opened g c =
    empties-open c.args.site.now c.args.taken.now (take c.loop-body.body-index c.args.bodies.now) c.args.hand.now c.loop-body.hand
    c.loop-body.invariant.empties c.requires.lies

pub loop-body-preserved : goal.loop-body-preserved
loop-body-preserved g c =
    let board = c.args.site.now in
    let t = c.args.taken.now in
    let bodies = c.args.bodies.now in
    let i = c.loop-body.body-index in
    let old = c.args.hand.now in
    let new = c.take_child_into.new.hand in
    let done = c.take_child_into.new.done in
    let found = option_map (λ label. delivery_of label c.loop-body.done) c.loop-body.found in
    let below = option_map (λ label. delivery_of label done) c.take_child_into.result in
    let after = option_map (λ label. delivery_of label done) c.match-take_child_into.found in
    let same : first_of below found ≡ after =
    elim c.match-take_child_into.branch [
      | in-Some w ↦ ap (λ o. first_of (option_map (λ label. delivery_of label done) o) found) w.in-Some.is
          ∙ sym (ap (option_map (λ label. delivery_of label done)) w.found-is)
      | in_default w ↦ ap (λ o. first_of (option_map (λ label. delivery_of label done) o) found) w.in_default.is
          ∙ ap (λ d. option_map (λ label. delivery_of label d) c.loop-body.found) (sym (c.take_child_into.ensures.stays w.in_default.is))
          ∙ sym (ap (option_map (λ label. delivery_of label done)) w.found-is)
    ] in
    subst (λ (o : Option Delivery). TakesBodies board t (take (i + 1) bodies) o old new) same
    (subst (λ (l : List ℕ). TakesBodies board t l (first_of below found) old new) (sym (take_more bodies i 0 c.loop-body-test.true))
    (takes-more board t (take i bodies) found (get_or bodies i 0) below old c.loop-body.hand new c.loop-body.invariant
    c.take_child_into.ensures.takes))

pub returns : goal.returns
returns g c =
    subst (λ (l : List ℕ). TakesBodies c.args.site.now c.args.taken.now l
    (option_map (λ label. delivery_of label c.loop-body.done) c.loop-body.found) c.args.hand.now c.loop-body.hand)
    (take_all c.loop-body.body-index c.args.bodies.now (omega arith)) c.loop-body.invariant
