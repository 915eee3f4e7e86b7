use Rattle.std.proofs.Common.{sym, subst}
use Rattle.exec_recv.specs.Over.{IsOver}
use Rattle.exec_recv.proofs.Sites.{over-site}
use Rattle.node_tests.proofs.tests.decks.travels_over.Goals as goal

pub of-site-requires : goal.of-site-requires
of-site-requires g c = record { over = subst (IsOver c.in-Some.table) (sym c.of-stepper.ensures) c.in-Some.ensures.over }

pub travels-travelled-requires-clause-ready : goal.travels-travelled-requires-clause-ready
travels-travelled-requires-clause-ready g c κs within =
    rw c.of-site.ensures
    c.in-Some.ensures.ready

pub travels-travelled-requires-clause-site : goal.travels-travelled-requires-clause-site
travels-travelled-requires-clause-site g c κs within =
    rw c.of-site.ensures (over-site c.in-Some.table c.args.plan.now c.in-Some.ensures.over c.requires.kinds)
