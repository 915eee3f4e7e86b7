use Rattle.std.proofs.Common.{◌≡◌, ◌*◌, ◌≤◌, length, take}
use Rattle.std.specs.List.{flat_map}
use Rattle.exec_value.specs.declared.limits.TheConstants.{TEXT_BYTES}
use Rattle.exec_job.specs.Apply.{bytes_of}
use Rattle.exec_job.proofs.texts.joined_len.Given as goal

abbrev pub invariant-loop-datum : goal.invariant-loop-datum
invariant-loop-datum l = record {
  exact : l.len ≡ length (flat_map bytes_of (take l.datum-index l.operands));
  bounded : l.len ≤ TEXT_BYTES * l.datum-index;
}
