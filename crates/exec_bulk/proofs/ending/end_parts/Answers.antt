use Rattle.std.proofs.Common.{inl, inr, ℤ, List, ℕ, Result, sym, ap, subst, ◌∙◌}
use Rattle.std.proofs.lemmas.Bool.{both_ways}
use Rattle.exec_value.specs.declared.outcome.Completion.{Completion}
use Rattle.node_images.specs.Makes.{CompletesInPlace}
use Rattle.plan_rules.specs.Bulks.{row_ending}
use Rattle.step_parts.specs.Completes.{Completes}
use Rattle.exec_bulk.specs.Rows.{numbers_in, parts_for}
use Rattle.exec_bulk.proofs.Ended.{made-ends, want-ends}
use Rattle.exec_bulk.proofs.Making.{whole-made}
use Rattle.exec_bulk.proofs.ending.end_parts.Goals as goal

pub complete-requires : goal.complete-requires
complete-requires g c =
    let may = c.requires.may in
    record {
      may = made-ends c.args.site.now c.args.taken c.args.saw c.args.made c.args.hand.now may c.finish.new.done
          (c.finish.ensures.made may.job (numbers_in may.kept.completion) (parts_for (numbers_in may.kept.completion)) may.made_is c.if-finish.true);
    }

pub want_memory-requires : goal.want_memory-requires
want_memory-requires g c =
    let may = c.requires.may in
    record { may = want-ends c.args.site.now c.args.taken may.child may.job c.args.hand.now may.taken may.node_is }

pub returns-then-finish : goal.returns-then-finish
returns-then-finish g c job whole made =
    let done = c.finish.ensures.made job whole (parts_for whole) made c.if-finish.true ∙ ap row_ending (whole-made job whole) in
    inl (subst (λ (d : Completion). Completes c.args.site.now c.args.taken d c.args.saw c.complete.result c.args.hand.now c.complete.new.hand) done
    c.complete.ensures)

pub returns : goal.returns
returns g c job whole made =
    inr (record {
      large = λ able stands.
          both_ways c.finish.result c.if-finish.false
          (c.finish.ensures.in_place job whole (parts_for whole) made able
          (subst (λ (r : Result (List ℤ) (List ℕ)). CompletesInPlace (row_ending r)) (sym (whole-made job whole)) stands));
      completes = c.want_memory.ensures;
    })
