use Rattle.std.proofs.Common.{ℕ, inl, inr, sym, ap, ◌∙◌, subst}
use Rattle.exec_value.specs.declared.outcome.Completion.{Completion}
use Rattle.node_images.specs.Makes.{CompletesInPlace}
use Rattle.step_parts.specs.Completes.{Completes}
use Rattle.exec_adapt.specs.Images.{made_of}
use Rattle.exec_adapt.proofs.MakingOwn.{made-ends, made-wants}
use Rattle.exec_adapt.proofs.factories.make_own.Goals as goal

pub put_made-requires : goal.put_made-requires
put_made-requires g c = c.requires.may.made

pub complete-requires : goal.complete-requires
complete-requires g c = record {
  may = made-ends _ _ _ _ _ _ c.requires.may c.put_made.new.done
      (c.in-Ok.ensures.exact ∙ ap (λ (n : ℕ). made_of c.args.node.now n c.args.stop) c.number.ensures);
}

pub want_memory-requires : goal.want_memory-requires
want_memory-requires g c = record {
  may = made-wants _ _ _ _ _ _ c.requires.may
      (λ in_place.
      let ok = c.in-Err.ensures.in_place
      (subst (λ (n : ℕ). CompletesInPlace (made_of c.args.node.now n c.args.stop)) (sym c.number.ensures) in_place) in
      cc);
}

pub returns-in-Ok : goal.returns-in-Ok
returns-in-Ok g c =
    inl (subst (λ (d : Completion). Completes c.args.site.now c.args.taken d c.args.saw c.complete.result c.args.hand.now c.complete.new.hand)
    (c.in-Ok.ensures.exact ∙ ap (λ (n : ℕ). made_of c.args.node.now n c.args.stop) c.number.ensures) c.complete.ensures)

pub returns-in-Err : goal.returns-in-Err
returns-in-Err g c =
    inr (record {
      large = λ in_place.
          let ok = c.in-Err.ensures.in_place
          (subst (λ (n : ℕ). CompletesInPlace (made_of c.args.node.now n c.args.stop)) (sym c.number.ensures) in_place) in
          cc;
      completes = c.want_memory.ensures;
    })
