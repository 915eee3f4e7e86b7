use Rattle.std.proofs.Common.{◌≡◌, map, take}
use Rattle.exec_value.specs.Kinds.{kind_of}
use Rattle.sig_check.proofs.gives.kinds_of.Given as goal

abbrev pub invariant-loop-datum : goal.invariant-loop-datum
invariant-loop-datum l = l.list ≡ map kind_of (take l.datum-index l.values)
