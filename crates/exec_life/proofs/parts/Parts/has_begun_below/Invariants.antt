use Rattle.std.proofs.Common.{◌≡◌, false}
use Rattle.life_rules.specs.States.{name_at}
use Rattle.life_rules.specs.StopSteps.{some_below}
use Rattle.exec_life.specs.Parts.{shown, is_begun_child}
use Rattle.exec_life.proofs.parts.Parts.has_begun_below.Given as goal

abbrev pub invariant-loop-node : goal.invariant-loop-node
invariant-loop-node l =
    let s = shown l.self in
    let x = name_at s l.place in
    some_below (is_begun_child s x) l.node ≡ false
