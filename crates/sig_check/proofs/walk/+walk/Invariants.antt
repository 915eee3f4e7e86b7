use Rattle.std.proofs.Common.{◌≡◌, ◌+◌, ◌*◌, take}
use Rattle.plan_kinds.specs.Signatures.{sig_of, sigs_at}
use Rattle.sig_check.specs.Findings.{Finds}
use Rattle.sig_check.proofs.walk.+walk.Given as goal

abbrev pub decreases-walk : goal.decreases-walk
decreases-walk l = 2 * l.node + 1

abbrev pub decreases-walk_all : goal.decreases-walk_all
decreases-walk_all l = 2 * l.above

abbrev pub invariant-walk_all-loop-node : goal.invariant-walk_all-loop-node
invariant-walk_all-loop-node l = record {
  sigs : l.sigs.items ≡ sigs_at (sig_of l.plan.nodes) (take l.node-index l.nodes) l.arguments;
  finds : Finds l.plan.nodes l.plan.settings.input l.initial.findings.items (take l.node-index l.nodes)
      l.findings.items;
}
