use Rattle.std.proofs.Common.{◌≡◌, None, take}
use Rattle.plan_kinds.specs.Shapes.{common}
use Rattle.plan_kinds.specs.Values.{shapes_of}
use Rattle.sig_check.proofs.shapes.common.Given as goal

abbrev pub invariant-loop-sig : goal.invariant-loop-sig
invariant-loop-sig l =
    (l.front ≡ None) × (common (shapes_of (take l.sig-index l.behind)) ≡ None)
