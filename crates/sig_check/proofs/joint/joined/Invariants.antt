use Rattle.std.proofs.Common.{◌≡◌, take}
use Rattle.plan_kinds.specs.Shapes.{joined}
use Rattle.plan_kinds.specs.Values.{shapes_of}
use Rattle.sig_check.specs.Joints.{joint_of}
use Rattle.sig_check.proofs.joint.joined.Given as goal

abbrev pub invariant-loop-sig : goal.invariant-loop-sig
invariant-loop-sig l = l.joint ≡ joint_of (joined (shapes_of (take l.sig-index l.sigs)))
