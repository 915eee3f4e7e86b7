use Rattle.std.proofs.Common.{◌≡◌, true, false, inl, inr, sym, ◌∙◌}
use Rattle.std.proofs.lemmas.Bool.{both_ways}
use Rattle.exec_adapt.specs.Images.{acts_on, has_own_name, names_error}
use Rattle.exec_adapt.proofs.Making.{and-right}
use Rattle.exec_adapt.proofs.Passing.{pass-takes, pass-ends, pass-names, pass-wants}
use Rattle.exec_adapt.proofs.adaptors.pass_on.Goals as goal

pub own_name-requires : goal.own_name-requires
own_name-requires g c =
    and-right (acts_on c.args.node.now c.args.done.now) (has_own_name c.args.node.now) (sym c.names_error.ensures ∙ c.if-names_error.true)

pub complete_named-requires : goal.complete_named-requires
complete_named-requires g c = record {
  may = rw (c.own_name.ensures, c.saw-saw.ensures)
      (pass-names _ _ _ _ _ c.requires.may (sym c.names_error.ensures ∙ c.if-names_error.true));
}

pub make_image-requires-clause-adaptor : goal.make_image-requires-clause-adaptor
make_image-requires-clause-adaptor g c = c.requires.may.adaptor

pub make_image-requires-clause-takes : goal.make_image-requires-clause-takes
make_image-requires-clause-takes g c = pass-takes _ _ _ _ _ c.requires.may

pub make_image-requires-clause-unnamed : goal.make_image-requires-clause-unnamed
make_image-requires-clause-unnamed g c = sym c.names_error.ensures ∙ c.if-names_error.false

pub complete-requires : goal.complete-requires
complete-requires g c = record {
  may = rw c.saw-saw.ensures (pass-ends _ _ _ _ _ c.requires.may c.make_image.new.done c.in-Ok.ensures.exact);
}

pub want_memory-requires : goal.want_memory-requires
want_memory-requires g c = record {
  may = pass-wants _ _ _ _ _ c.requires.may (λ stands. let ok = c.in-Err.ensures.in_place stands in cc);
}

pub returns-then-names_error : goal.returns-then-names_error
returns-then-names_error g c =
    let is : names_error c.args.node.now c.args.done.now ≡ true = sym c.names_error.ensures ∙ c.if-names_error.true in
    record {
      named = λ _. rw (c.own_name.ensures, c.saw-saw.ensures) at c.complete_named.ensures;
      made = λ isnt. absurd (both_ways (names_error c.args.node.now c.args.done.now) isnt is);
    }

pub returns-in-Ok : goal.returns-in-Ok
returns-in-Ok g c =
    let isnt : names_error c.args.node.now c.args.done.now ≡ false = sym c.names_error.ensures ∙ c.if-names_error.false in
    record {
      named = λ is. absurd (both_ways (names_error c.args.node.now c.args.done.now) isnt is);
      made = λ _. inl (rw (c.in-Ok.ensures.exact, c.saw-saw.ensures) at c.complete.ensures);
    }

pub returns-in-Err : goal.returns-in-Err
returns-in-Err g c =
    let isnt : names_error c.args.node.now c.args.done.now ≡ false = sym c.names_error.ensures ∙ c.if-names_error.false in
    record {
      named = λ is. absurd (both_ways (names_error c.args.node.now c.args.done.now) isnt is);
      made = λ _. inr (record {
        large = λ in_place. let ok = c.in-Err.ensures.in_place (inl in_place) in cc;
        completes = c.want_memory.ensures;
      });
    }
