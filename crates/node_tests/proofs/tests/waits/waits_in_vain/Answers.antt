use Rattle.std.proofs.Common.{sym, subst}
use Rattle.exec_recv.specs.Over.{IsOver}
use Rattle.exec_recv.proofs.Sites.{over-site}
use Rattle.node_tests.proofs.tests.waits.waits_in_vain.Goals as goal

pub of-site-requires : goal.of-site-requires
of-site-requires g c = record { over = subst (IsOver c.in-Some.table) (sym c.of-stepper.ensures) c.in-Some.ensures.over }

pub comes_back-number-requires-clause-ready : goal.comes_back-number-requires-clause-ready
comes_back-number-requires-clause-ready g c κs within =
    rw c.of-site.ensures
    c.in-Some.ensures.ready

pub comes_back-number-requires-clause-site : goal.comes_back-number-requires-clause-site
comes_back-number-requires-clause-site g c κs within =
    rw c.of-site.ensures (over-site c.in-Some.table c.args.plan.now c.in-Some.ensures.over c.requires.kinds)
