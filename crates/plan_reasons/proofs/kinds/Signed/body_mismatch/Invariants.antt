use Rattle.std.proofs.Common.{◌≡◌, drop}
use Rattle.plan_reasons.specs.Kinds.{body_mismatch}
use Rattle.plan_reasons.proofs.kinds.Signed.body_mismatch.Given as goal

abbrev pub invariant-loop-index : goal.invariant-loop-index
invariant-loop-index l =
    body_mismatch l.self.sigs.now l.other l.wanted 0 l.bodies
    ≡ body_mismatch l.self.sigs.now l.other l.wanted l.index (drop l.index l.bodies)
