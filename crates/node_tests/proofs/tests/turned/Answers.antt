use Rattle.std.proofs.Common.{sym, subst}
use Rattle.exec_recv.specs.Over.{IsOver}
use Rattle.exec_recv.proofs.Sites.{over-site}
use Rattle.node_tests.proofs.tests.turned.Goals as goal

pub of-site-requires : goal.of-site-requires
of-site-requires g c = record { over = subst (IsOver c.in-Some.table) (sym c.of-stepper.ensures) c.in-Some.ensures.over }

pub turns_of-turns-requires-clause-ready : goal.turns_of-turns-requires-clause-ready
turns_of-turns-requires-clause-ready g c κs within =
    rw c.of-site.ensures
    c.in-Some.ensures.ready

pub turns_of-turns-requires-clause-site : goal.turns_of-turns-requires-clause-site
turns_of-turns-requires-clause-site g c κs within =
    rw c.of-site.ensures (over-site c.in-Some.table c.args.plan.now c.in-Some.ensures.over c.requires.kinds)
