use Rattle.std.proofs.Common.{refl}
use Rattle.step_parts.proofs.Only.{only-named}
use Rattle.plan_rules.specs.declared.node.Node.TheVariants.{Delay}
use Rattle.std.specs.Prelude.{None}
use Rattle.exec_recv.specs.Sites.{plan_at, node_at}
use Rattle.exec_delay.proofs.Stopped.{delay-of}
use Rattle.exec_delay.proofs.stepping.DelaysKind.step.Goals as goal

pub take_one-taken-requires-clause-only : goal.take_one-taken-requires-clause-only
take_one-taken-requires-clause-only g c =
    let found = delay-of (node_at c.args.site.now c.args.name) c.requires.kind in
    only-named c.args.site.now (plan_at c.args.site.now) c.args.name (Delay found.0) None c.requires.may.site.over found.1 refl (λ k. refl)
