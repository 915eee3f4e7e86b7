use Rattle.std.proofs.Common.{sym, subst}
use Rattle.exec_recv.specs.Over.{IsOver}
use Rattle.exec_recv.proofs.Sites.{over-site}
use Rattle.node_tests.proofs.tests.told.tried_over.Goals as goal

pub of-site-requires : goal.of-site-requires
of-site-requires g c = record { over = subst (IsOver c.in-Some.table) (sym c.of-stepper.ensures) c.in-Some.ensures.over }

pub ends-ended-requires-clause-ready : goal.ends-ended-requires-clause-ready
ends-ended-requires-clause-ready g c κs within =
    rw c.of-site.ensures
    c.tells-2.ensures

pub ends-ended-requires-clause-site : goal.ends-ended-requires-clause-site
ends-ended-requires-clause-site g c κs within =
    rw c.of-site.ensures (over-site c.in-Some.table c.args.plan.now c.in-Some.ensures.over c.requires.kinds)
