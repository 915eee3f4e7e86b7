use Rattle.std.proofs.Common.{sym, subst}
use Rattle.exec_recv.specs.Over.{IsOver}
use Rattle.exec_recv.proofs.Sites.{over-site}
use Rattle.hand_tests.proofs.Ready.{opens-keeping}
use Rattle.hand_tests.proofs.tests.acts.are_told_over.Goals as goal

pub of-site-requires : goal.of-site-requires
of-site-requires g c = record { over = subst (IsOver c.in-Some.table) (sym c.of-stepper.ensures) c.in-Some.ensures.over }

pub told_and_ended-told-requires-clause-site : goal.told_and_ended-told-requires-clause-site
told_and_ended-told-requires-clause-site g c κs within =
    rw c.of-site.ensures (over-site c.in-Some.table c.args.plan.now c.in-Some.ensures.over c.requires.kinds)

pub told_and_ended-told-requires-clause-keeping : goal.told_and_ended-told-requires-clause-keeping
told_and_ended-told-requires-clause-keeping g c κs within =
    rw c.of-site.ensures
    (opens-keeping c.in-Some.table c.in-Some.hand c.in-Some.ensures.hand c.args.most c.in-Ok.futures c.in-Ok.ensures)
