use Rattle.std.proofs.Common.{take}
use Rattle.std.specs.List.{flat_map}
use Rattle.exec_life.specs.StateLists.{machine}
use Rattle.pictures.specs.Adding.{Adds}
use Rattle.life_rules.specs.declared.event.SourceAt.TheVariants.{At}
use Rattle.replay_core.specs.Candidates.{nodes_of, place_of}
use Rattle.trace_reasons.specs.Open.{scan_mark}
use Rattle.trace_reasons.proofs.open.put_scans_in.Given as goal

abbrev pub invariant-loop-node : goal.invariant-loop-node
invariant-loop-node l =
    let s = machine l.state in
    Adds l.initial.out.items l.out.items (flat_map (λ n. scan_mark s (At (place_of l.block n))) (take l.node (nodes_of s)))
