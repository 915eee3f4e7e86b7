use Rattle.std.proofs.Common.{◌≡◌, ◌++◌, take}
use Rattle.sig_check.proofs.shapes.append.Given as goal

abbrev pub invariant-loop-kind : goal.invariant-loop-kind
invariant-loop-kind l = l.list ≡ l.initial.list ++ take l.kind-index l.kinds
