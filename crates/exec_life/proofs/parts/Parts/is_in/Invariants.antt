use Rattle.std.proofs.Common.{◌≡◌, false}
use Rattle.life_rules.specs.States.{name_of}
use Rattle.life_rules.specs.StopSteps.{some_below, has}
use Rattle.exec_life.specs.Parts.{shown}
use Rattle.exec_life.proofs.parts.Parts.is_in.Given as goal

abbrev pub invariant-loop-node : goal.invariant-loop-node
invariant-loop-node l =
    let s = shown l.self in
    some_below (λ n. has (s.view l.hand) (name_of s l.block n)) l.node ≡ false
