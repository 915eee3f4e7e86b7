use Rattle.std.proofs.Common.{sym, ◌∙◌, arith}
use Rattle.std.proofs.lemmas.Bool.{le-ltb, lt-ltb}
use Rattle.exec_life.specs.StateLists.{machine}
use Rattle.step_reasons.proofs.Passing.{passed, stopped}
use Rattle.step_reasons.proofs.reason.reason_of.Goals as goal

pub returns-then-hand-hands : goal.returns-then-hand-hands
returns-then-hand-hands c =
    let s = machine c.args.state.now in
    sym (stopped _ _ _ (le-ltb c.args.hand s.hands (omega (arith, c.if-hand-hands.true, c.hands.ensures))))

pub returns : goal.returns
returns c =
    let s = machine c.args.state.now in
    c.event_reason.ensures ∙ sym (passed _ _ _ (lt-ltb c.args.hand s.hands (omega (arith, c.if-hand-hands.false, c.hands.ensures))))
