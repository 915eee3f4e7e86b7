use Rattle.std.proofs.Common.{take}
use Rattle.std.specs.List.{flat_map}
use Rattle.exec_life.specs.StateLists.{machine}
use Rattle.pictures.specs.Adding.{Adds}
use Rattle.replay_core.specs.Candidates.{blocks_of}
use Rattle.trace_reasons.specs.Open.{scan_marks}
use Rattle.trace_reasons.proofs.open.put_scan_marks.Given as goal

abbrev pub invariant-loop-block : goal.invariant-loop-block
invariant-loop-block l =
    let s = machine l.state in
    Adds l.initial.out.items l.out.items (flat_map (scan_marks s) (take l.block (blocks_of s)))
