use Rattle.std.proofs.Common.{◌≡◌, false}
use Rattle.life_rules.specs.States.{name_at}
use Rattle.life_rules.specs.StopSteps.{some_below}
use Rattle.exec_life.specs.Parts.{shown, owes_report_of}
use Rattle.exec_life.proofs.parts.Parts.owes_report_below.Given as goal

abbrev pub invariant-loop-node : goal.invariant-loop-node
invariant-loop-node l =
    let s = shown l.self in
    let x = name_at s l.place in
    let v = s.view l.hand in
    some_below (owes_report_of s v x) l.node ≡ false
