use Rattle.std.proofs.Common.{◌≡◌, take}
use Rattle.std.specs.List.{flat_map}
use Rattle.exec_job.specs.Apply.{bytes_of}
use Rattle.exec_job.proofs.texts.join.Given as goal

abbrev pub invariant-loop-datum : goal.invariant-loop-datum
invariant-loop-datum l = l.joined ≡ flat_map bytes_of (take l.datum-index l.operands)
