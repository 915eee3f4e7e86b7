use Rattle.std.proofs.Common.{◌≡◌, ◌<◌, sym, ◌∙◌, arith}
use Rattle.exec_life.specs.StateLists.{machine}
use Rattle.step_reasons.specs.Standings.{has_part}
use Rattle.step_reasons.proofs.Firsts.{first-start, first-found, first-next, first-end}
use Rattle.step_reasons.proofs.reading.first_hand.Goals as goal

pub loop-hand-init : goal.loop-hand-init
loop-hand-init c =
    let s = machine c.args.state.now in
    first-start (has_part s c.args.part c.args.place) s.hands

pub returns-then-has_part : goal.returns-then-has_part
returns-then-has_part c =
    let s = machine c.args.state.now in
    let within : c.loop-hand.hand < s.hands = omega arith in
    sym (first-found (has_part s c.args.part c.args.place) s.hands c.loop-hand.hand within c.loop-hand.invariant (sym c.has_part.ensures ∙ c.if-has_part.true))

pub loop-hand-preserved : goal.loop-hand-preserved
loop-hand-preserved c =
    let s = machine c.args.state.now in
    let within : c.loop-hand.hand < s.hands = omega arith in
    first-next (has_part s c.args.part c.args.place) s.hands c.loop-hand.hand within c.loop-hand.invariant (sym c.has_part.ensures ∙ c.if-has_part.false)

pub returns : goal.returns
returns c =
    let s = machine c.args.state.now in
    let all : c.loop-hand.hand ≡ s.hands = omega arith in
    c.hands.ensures ∙ sym (first-end (has_part s c.args.part c.args.place) s.hands c.loop-hand.hand all c.loop-hand.invariant)
