use Rattle.std.proofs.Common.{◌≡◌, drop}
use Rattle.exec_life.specs.StateLists.{machine}
use Rattle.step_reasons.specs.LifeReasons.{children_reason}
use Rattle.step_reasons.proofs.life_reasons.children_reason.Given as goal

abbrev pub invariant-loop-child : goal.invariant-loop-child
invariant-loop-child l =
    let s = machine l.state in
    children_reason s l.place l.children ≡ children_reason s l.place (drop l.child-index l.children)
