use Rattle.std.proofs.Common.{◌≡◌, true, ◌-◌}
use Rattle.life_rules.specs.Scans.{has_none}
use Rattle.life_rules.specs.States.{size}
use Rattle.life_rules.specs.StopSteps.{source_of}
use Rattle.exec_life.specs.Parts.{shown}
use Rattle.exec_life.proofs.parts.Parts.has_none.Given as goal

abbrev pub invariant-loop-number : goal.invariant-loop-number
invariant-loop-number l =
    let s = shown l.self in
    record {
      none : has_none s (source_of s l.source) l.from (l.number - l.from) ≡ true;
      size_is : l.size ≡ size s;
    }
