use Rattle.std.proofs.Common.{sym, ap, ◌∙◌, take}
use Rattle.plan_kinds.specs.Shapes.{joined}
use Rattle.plan_kinds.specs.Values.{shapes_of}
use Rattle.sig_check.specs.Joints.{joint_of}
use Rattle.sig_check.proofs.ShapeLemmas.{joined-more}
use Rattle.sig_check.proofs.joint.joined.Goals as goal

pub loop-sig-preserved : goal.loop-sig-preserved
loop-sig-preserved c =
    c.join-joint.ensures (joined (shapes_of (take c.loop-sig.sig-index c.args.sigs.now))) c.loop-sig.invariant
    ∙ ap joint_of (sym (joined-more c.args.sigs.now c.loop-sig.sig-index c.sig-item.result c.loop-sig-test.true c.sig-item.is))
