use Rattle.std.proofs.lemmas.Bool.{both_ways}
use Rattle.step_parts.proofs.Started.{run-above, run-place, idle-runs, idle-read}
use Rattle.exec_adapt.proofs.Receiving.{top-root, read-runs, begun-leaves}
use Rattle.exec_adapt.proofs.receivers.start_again_top.Goals as goal

pub has_begun-requires-clause-place : goal.has_begun-requires-clause-place
has_begun-requires-clause-place g c κs =
    rw c.name.ensures (run-place _ _ c.args.child _ _ (read-runs _ _ _ _ (rw (← c.site.view_is) at c.requires.may)))

pub has_begun-requires-clause-holds : goal.has_begun-requires-clause-holds
has_begun-requires-clause-holds g c κs =
    rw c.name.ensures (run-above _ _ c.args.child _ _ (read-runs _ _ _ _ (rw (← c.site.view_is) at c.requires.may)))

pub leave_at_rest-requires : goal.leave_at_rest-requires
leave_at_rest-requires g c = record {
  may = rw (← c.site.view_is)
      (begun-leaves _ _ _ _ (rw (← c.site.view_is) at c.requires.may) c.has_begun.new.hand c.has_begun.ensures.stays c.has_begun.result
      (rw c.name.ensures at c.has_begun.ensures.begun) c.if-has_begun.true);
}

pub start_top-requires-clause-root : goal.start_top-requires-clause-root
start_top-requires-clause-root g c = top-root _ _ _ c.requires.may.taken c.requires.may.root

pub start_top-requires-clause-may : goal.start_top-requires-clause-may
start_top-requires-clause-may g c =
    rw (← c.site.view_is)
    (idle-runs _ _ _ _ _ (read-runs _ _ _ _ (rw (← c.site.view_is) at c.requires.may)) c.has_begun.new.hand c.has_begun.ensures.stays c.has_begun.result
    (rw c.name.ensures at c.has_begun.ensures.begun) c.if-has_begun.false)

pub start_top-requires-clause-idle : goal.start_top-requires-clause-idle
start_top-requires-clause-idle g c =
    idle-read _ _ _ _ _ (read-runs _ _ _ _ (rw (← c.site.view_is) at c.requires.may)) c.has_begun.new.hand c.has_begun.ensures.stays c.has_begun.result
    (rw c.name.ensures at c.has_begun.ensures.begun) c.if-has_begun.false

pub returns-then-has_begun : goal.returns-then-has_begun
returns-then-has_begun g c =
    record {
      begun = c.has_begun.result;
      middle = c.has_begun.new.hand;
      read = rw (← c.site.view_is, ← c.name.ensures) c.has_begun.ensures.begun;
      has = λ _. c.leave_at_rest.ensures;
      has_not = λ isnt. absurd (both_ways c.has_begun.result isnt c.if-has_begun.true);
    }

pub returns : goal.returns
returns g c =
    record {
      begun = c.has_begun.result;
      middle = c.has_begun.new.hand;
      read = rw (← c.site.view_is, ← c.name.ensures) c.has_begun.ensures.begun;
      has = λ is. absurd (both_ways c.has_begun.result c.if-has_begun.false is);
      has_not = λ _. c.start_top.ensures;
    }
