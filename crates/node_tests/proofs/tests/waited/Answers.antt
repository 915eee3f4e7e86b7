use Rattle.std.proofs.Common.{sym, subst}
use Rattle.exec_recv.specs.Over.{IsOver}
use Rattle.exec_recv.proofs.Sites.{over-site}
use Rattle.node_tests.proofs.tests.waited.Goals as goal

pub of-site-requires : goal.of-site-requires
of-site-requires g c = record { over = subst (IsOver c.in-Some.table) (sym c.of-stepper.ensures) c.in-Some.ensures.over }

pub completion_of-done-requires-clause-ready : goal.completion_of-done-requires-clause-ready
completion_of-done-requires-clause-ready g c κs within =
    rw c.of-site.ensures
    c.in-Some.ensures.ready

pub completion_of-done-requires-clause-site : goal.completion_of-done-requires-clause-site
completion_of-done-requires-clause-site g c κs within =
    rw c.of-site.ensures (over-site c.in-Some.table c.args.plan.now c.in-Some.ensures.over c.requires.kinds)
