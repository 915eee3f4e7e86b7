use Rattle.std.proofs.Common.{inl, inr, ◌∙◌}
use Rattle.step_parts.proofs.Started.{run-may, run-starts, run-still}
use Rattle.step_parts.proofs.Topped.{top-leaves}
use Rattle.home_items.specs.Entries.{carried_of}
use Rattle.step_parts.proofs.Begun.{rest-lies}
use Rattle.step_parts.proofs.starting.start_top.Goals as goal

pub go_below-requires-clause-may : goal.go_below-requires-clause-may
go_below-requires-clause-may g c =
    rw (c.asked-asked.ensures)
    (run-may _ _ _ _ _ c.requires.may _ (c.into_data-args.ensures ∙ c.in-Some.ensures.copies) _ c.in-Some.ensures.changes c.requires.idle)

pub leave_at_rest-requires : goal.leave_at_rest-requires
leave_at_rest-requires g c = record {
  may = top-leaves _ _ _ _ _ c.requires.root (run-still _ _ _ _ _ c.requires.may _ c.in-None.ensures.changes)
      (λ in_place. let e = c.in-None.ensures.in_place in_place in cc);
}

pub returns-in-Some : goal.returns-in-Some
returns-in-Some g c =
    inl (run-starts _ _ _ _ _ c.requires.may _ (c.into_data-args.ensures ∙ c.in-Some.ensures.copies) _ c.in-Some.ensures.changes _ _
    (rw (c.asked-asked.ensures) at c.go_below.ensures))

pub returns-in-None : goal.returns-in-None
returns-in-None g c =
    inr (record {
      want = λ in_place. let e = c.in-None.ensures.in_place in_place in cc;
      looked = c.rest_and_copy.new.hand;
      keeps = c.in-None.ensures.changes;
      left = c.leave_at_rest.ensures;
    })

pub go_below-requires-clause-lies : goal.go_below-requires-clause-lies
go_below-requires-clause-lies g c =
    rest-lies c.args.site.now c.args.taken c.args.child (carried_of c.args.taken.start) c.asked-asked.result c.args.hand.now c.rest_and_copy.new.hand
    c.in-Some.ensures.changes
