use Rattle.std.proofs.Common.{Bool, true, false, List, sym, ◌∙◌, subst}
use Rattle.std.proofs.lemmas.Option.{same_Some}
use Rattle.exec_value.specs.declared.data.Datum.{Datum}
use Rattle.home_items.specs.Entries.{asked_of}
use Rattle.step_parts.specs.Starts.{Begins, MayBegin}
use Rattle.exec_let.proofs.Begun.{body-place, body-above, begun-leaves, idle-begins}
use Rattle.exec_let.proofs.beginning.begin_body.Goals as goal

pub has_begun-requires-clause-place : goal.has_begun-requires-clause-place
has_begun-requires-clause-place g c κs =
    rw (c.site.view_is, c.name.ensures)
    (body-place _ _ _ _ _ _ _ c.requires.may c.hear-heard.ensures.keeps c.hear-heard.result c.hear-heard.ensures.looked)

pub has_begun-requires-clause-holds : goal.has_begun-requires-clause-holds
has_begun-requires-clause-holds g c κs =
    rw (c.site.view_is, c.name.ensures)
    (body-above _ _ _ _ _ _ _ c.requires.may c.hear-heard.ensures.keeps c.hear-heard.result c.hear-heard.ensures.looked)

pub leave_at_rest-requires : goal.leave_at_rest-requires
leave_at_rest-requires g c = record {
  may = rw c.parcel-kept.ensures
      (begun-leaves _ _ _ _ _ _ _ c.requires.may c.hear-heard.ensures.keeps c.hear-heard.result c.hear-heard.ensures.looked c.has_begun.new.hand
      (rw c.site.view_is at c.has_begun.ensures.stays) (rw (c.site.view_is, c.name.ensures) at c.if-has_begun.ensures.begun));
}

pub returns-then-has_begun-clause-begins : goal.returns-then-has_begun-clause-begins
returns-then-has_begun-clause-begins g c = record {
  saw = c.hear-heard.result;
  heard = c.hear-heard.new.hand;
  looked = c.hear-heard.ensures.looked;
  begun = true;
  middle = c.has_begun.new.hand;
  read = rw (c.site.view_is, c.name.ensures) at c.if-has_begun.ensures.begun;
  later = λ yes. rw c.parcel-kept.ensures at c.leave_at_rest.ensures;
  begins = λ values on no. cc;
}

pub begin-requires : goal.begin-requires
begin-requires g c =
    let on = sym c.take_channel.ensures ∙ c.in-Some.is in
    record {
      may = subst (λ (asked : Bool). MayBegin c.args.site.now c.args.taken c.args.body c.in-Some.values asked c.has_begun.new.hand)
          (sym c.asked-asked.ensures)
          (idle-begins _ _ _ _ _ _ _ c.requires.may c.hear-heard.ensures.keeps c.hear-heard.result c.hear-heard.ensures.looked c.has_begun.new.hand
          (rw c.site.view_is at c.has_begun.ensures.stays) (rw (c.site.view_is, c.name.ensures) at c.if-has_begun.ensures.begun) c.in-Some.values
          on);
    }

pub returns-clause-begins : goal.returns-clause-begins
returns-clause-begins g c =
    let here = sym c.take_channel.ensures ∙ c.in-Some.is in
    record {
      saw = c.hear-heard.result;
      heard = c.hear-heard.new.hand;
      looked = c.hear-heard.ensures.looked;
      begun = false;
      middle = c.has_begun.new.hand;
      read = rw (c.site.view_is, c.name.ensures) at c.if-has_begun.ensures.begun;
      later = λ yes. cc;
      begins = λ values on no.
          subst (λ (l : List Datum). Begins c.args.site.now c.args.taken c.args.body l (asked_of c.args.taken.start) c.begin.result c.has_begun.new.hand
          c.begin.new.hand)
          (same_Some c.in-Some.values values (sym here ∙ on))
          (subst (λ (asked : Bool). Begins c.args.site.now c.args.taken c.args.body c.in-Some.values asked c.begin.result c.has_begun.new.hand
          c.begin.new.hand) c.asked-asked.ensures c.begin.ensures);
    }
