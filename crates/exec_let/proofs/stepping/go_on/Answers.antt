use Rattle.std.proofs.Common.{◌≡◌, Bool, true, false, refl}
use Rattle.home_items.specs.Parcels.{delivery_of}
use Rattle.exec_let.proofs.Begun.{let-picks}
use Rattle.exec_let.proofs.Ended.{answer-may, pass-may, want-ends}
use Rattle.exec_let.proofs.Going.{wants-goes}
use Rattle.exec_let.proofs.stepping.go_on.Goals as goal

-- what would have had memory, had it been small, is more
is-more : (is : Bool) → (is ≡ true → ⊥) → is ≡ false
is-more true none = absurd (none refl)
is-more false none = refl

pub pick_or_wait-requires : goal.pick_or_wait-requires
pick_or_wait-requires g c = record { may = let-picks _ _ _ _ _ c.requires.may }

pub complete-requires : goal.complete-requires
complete-requires g c = record {
  may = answer-may _ _ _ _ _ c.requires.may c.in-Ok-Answer.field-0 c.in-Ok-Answer.ensures.picks c.saw-saw.result c.saw-saw.ensures
      c.in-Ok-Answer.answer c.in-Ok-Answer.field-0-is;
}

pub complete-requires-in-Ok-Passes : goal.complete-requires-in-Ok-Passes
complete-requires-in-Ok-Passes g c = record {
  may = pass-may _ _ _ _ _ c.requires.may c.in-Ok-Passes.field-0 c.in-Ok-Passes.ensures.picks c.saw-saw-in-Ok-Passes.result
      c.saw-saw-in-Ok-Passes.ensures c.in-Ok-Passes.field-0-is;
}

pub want_memory-requires : goal.want_memory-requires
want_memory-requires g c = record {
  may = want-ends _ _ _ _ _ c.requires.may (is-more _ (λ yes. let ok = c.in-Err.ensures.small yes in cc));
}

pub returns-in-Err-clause-goes : goal.returns-in-Err-clause-goes
returns-in-Err-clause-goes g c =
    wants-goes c.args.site.now c.args.taken c.want_memory.result c.args.node.now (delivery_of c.args.label c.args.done.now) c.args.hand.now
    c.want_memory.new.hand (is-more _ (λ yes. let ok = c.in-Err.ensures.small yes in cc)) c.want_memory.ensures
    (λ in_place. let ok = c.in-Err.ensures.in_place in_place in cc)
