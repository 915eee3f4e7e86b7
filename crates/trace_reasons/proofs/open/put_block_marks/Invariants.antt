use Rattle.std.proofs.Common.{take}
use Rattle.std.specs.List.{flat_map}
use Rattle.exec_life.specs.StateLists.{machine}
use Rattle.pictures.specs.Adding.{Adds}
use Rattle.replay_core.specs.Candidates.{blocks_of}
use Rattle.trace_reasons.specs.Open.{block_mark}
use Rattle.trace_reasons.proofs.open.put_block_marks.Given as goal

abbrev pub invariant-loop-block : goal.invariant-loop-block
invariant-loop-block l =
    let s = machine l.state in
    Adds l.initial.out.items l.out.items (flat_map (block_mark s) (take l.block (blocks_of s)))
