use Rattle.std.proofs.Common.{◌≡◌, drop}
use Rattle.std.specs.List.{list_all}
use Rattle.life_rules.specs.LifeSteps.{may_be_awaited}
use Rattle.life_rules.specs.States.{name_at}
use Rattle.exec_life.specs.Parts.{shown}
use Rattle.exec_life.proofs.parts.Parts.may_all_be_awaited.Given as goal

abbrev pub invariant-loop-child : goal.invariant-loop-child
invariant-loop-child l =
    let s = shown l.self in
    let test = may_be_awaited s (name_at s l.place) in
    list_all test l.children ≡ list_all test (drop l.child-index l.children)
