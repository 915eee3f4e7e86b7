use Rattle.step_parts.proofs.Started.{run-above, run-place, begun-leaves, idle-runs, idle-read, begun-again, idle-again}
use Rattle.step_parts.proofs.starting.start_again.Goals as goal

pub has_begun-requires-clause-place : goal.has_begun-requires-clause-place
has_begun-requires-clause-place g c κs = run-place _ _ c.args.child c.args.asked _ (rw (← c.site.view_is, ← c.taken.view_is) at c.requires.may)

pub has_begun-requires-clause-holds : goal.has_begun-requires-clause-holds
has_begun-requires-clause-holds g c κs = run-above _ _ c.args.child c.args.asked _ (rw (← c.site.view_is, ← c.taken.view_is) at c.requires.may)

pub leave_at_rest-requires : goal.leave_at_rest-requires
leave_at_rest-requires g c = record {
  may = rw (← c.site.view_is, ← c.taken.view_is)
      (begun-leaves _ _ _ _ _ (rw (← c.site.view_is, ← c.taken.view_is) at c.requires.may) c.has_begun.new.hand c.has_begun.ensures.stays c.has_begun.result c.has_begun.ensures.begun
      (rw (← c.site.view_is, ← c.taken.view_is) at c.requires.inner) c.if-has_begun.true);
}

pub start_child-requires-clause-may : goal.start_child-requires-clause-may
start_child-requires-clause-may g c =
    rw (← c.site.view_is, ← c.taken.view_is)
    (idle-runs _ _ _ _ _ (rw (← c.site.view_is, ← c.taken.view_is) at c.requires.may) c.has_begun.new.hand c.has_begun.ensures.stays c.has_begun.result c.has_begun.ensures.begun
    c.if-has_begun.false)

pub start_child-requires-clause-idle : goal.start_child-requires-clause-idle
start_child-requires-clause-idle g c =
    rw (← c.taken.view_is)
    (idle-read _ _ _ _ _ (rw (← c.site.view_is, ← c.taken.view_is) at c.requires.may) c.has_begun.new.hand c.has_begun.ensures.stays c.has_begun.result c.has_begun.ensures.begun
    c.if-has_begun.false)

pub returns-then-has_begun : goal.returns-then-has_begun
returns-then-has_begun g c =
    rw (← c.site.view_is, ← c.taken.view_is)
    (begun-again _ _ _ _ _ (rw (← c.site.view_is, ← c.taken.view_is) at c.requires.may) c.has_begun.new.hand c.has_begun.ensures.stays c.has_begun.result c.has_begun.ensures.begun
    c.if-has_begun.true _ _ (rw (← c.site.view_is, ← c.taken.view_is) at c.leave_at_rest.ensures))

pub returns : goal.returns
returns g c =
    rw (← c.site.view_is, ← c.taken.view_is)
    (idle-again _ _ _ _ _ (rw (← c.site.view_is, ← c.taken.view_is) at c.requires.may) c.has_begun.new.hand c.has_begun.ensures.stays c.has_begun.result c.has_begun.ensures.begun
    c.if-has_begun.false _ _ (rw (← c.site.view_is, ← c.taken.view_is) at c.start_child.ensures))

pub has_begun-requires-clause-table : goal.has_begun-requires-clause-table
has_begun-requires-clause-table g c κs = (rw (← c.site.view_is) at c.requires.may.taken.stays).hand
