use Rattle.std.proofs.Common.{◌≡◌, ◌-◌}
use Rattle.exec_life.specs.StateLists.{machine}
use Rattle.life_rules.specs.States.{size}
use Rattle.step_reasons.specs.Scanning.{has_next, next_block}
use Rattle.step_reasons.specs.Standings.{first_from}
use Rattle.step_reasons.proofs.reading.next_place.Given as goal

abbrev pub invariant-loop-block : goal.invariant-loop-block
invariant-loop-block l =
    let s = machine l.state in
    record {
      so_far : next_block s l.hand l.source ≡ first_from (has_next s l.hand l.source) l.block (s.blocks - l.block);
      size_is : l.size ≡ size s;
    }
