use Rattle.std.proofs.Common.{◌≡◌, ◌-◌}
use Rattle.exec_life.specs.StateLists.{machine}
use Rattle.step_reasons.specs.Standings.{first_from, first_hand, has_part}
use Rattle.step_reasons.proofs.reading.first_hand.Given as goal

abbrev pub invariant-loop-hand : goal.invariant-loop-hand
invariant-loop-hand l =
    let s = machine l.state in
    first_hand s l.part l.place ≡ first_from (has_part s l.part l.place) l.hand (s.hands - l.hand)
