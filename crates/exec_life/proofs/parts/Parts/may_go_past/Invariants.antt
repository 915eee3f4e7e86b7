use Rattle.std.proofs.Common.{◌≡◌, ◌&&◌, false}
use Rattle.std.specs.Prelude.{◌==◌}
use Rattle.life_rules.specs.declared.event.SourceRef.TheVariants.{Scope}
use Rattle.life_rules.specs.Scans.{is_next_in}
use Rattle.life_rules.specs.States.{name_of}
use Rattle.life_rules.specs.StopSteps.{some_below}
use Rattle.exec_life.specs.Parts.{shown}
use Rattle.exec_life.proofs.parts.Parts.may_go_past.Given as goal

abbrev pub invariant-loop-node : goal.invariant-loop-node
invariant-loop-node l =
    let s = shown l.self in
    let v = s.view l.hand in
    some_below (λ n. is_next_in s v Scope (name_of s l.block n) && v.runs (name_of s l.block n) == 0) l.node ≡ false
