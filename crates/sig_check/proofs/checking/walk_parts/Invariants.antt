use Rattle.std.proofs.Common.{◌≡◌, ℕ, ◌<◌, Some}
use Rattle.std.specs.Prelude.{slice_get}
use Rattle.plan_rules.specs.declared.node.Node.TheVariants.{Part}
use Rattle.sig_check.specs.Findings.{IsFound, AreRight}
use Rattle.sig_check.proofs.checking.walk_parts.Given as goal

abbrev pub invariant-loop-node : goal.invariant-loop-node
invariant-loop-node l = record {
  right : AreRight l.plan.nodes l.plan.settings.input l.findings.items;
  found : (n bulk part : ℕ) → n < l.node → slice_get l.plan.nodes n ≡ Some (Part bulk part) →
      IsFound l.findings.items n;
}
