use Rattle.std.proofs.Common.{◌≡◌, ◌-◌}
use Rattle.exec_life.specs.StateLists.{machine}
use Rattle.life_rules.specs.Scans.{is_next_in}
use Rattle.life_rules.specs.States.{size, name_of}
use Rattle.life_rules.specs.StopSteps.{source_of}
use Rattle.step_reasons.specs.Scanning.{next_node}
use Rattle.step_reasons.specs.Standings.{first_from}
use Rattle.step_reasons.proofs.reading.next_node.Given as goal

abbrev pub invariant-loop-node : goal.invariant-loop-node
invariant-loop-node l =
    let s = machine l.state in
    record {
      so_far : next_node s l.hand l.source l.block ≡ first_from (λ n. is_next_in s (s.view l.hand) (source_of s l.source) (name_of s l.block n)) l.node (size s - l.node);
      size_is : l.size ≡ size s;
    }
