use Rattle.std.proofs.Common.{◌≡◌, Option, Some, None, sym, ap, ◌∙◌, subst}
use Rattle.std.specs.Option.{option_map}
use Rattle.std.proofs.lemmas.Option.{same_Some}
use Rattle.home_items.specs.Parcels.{Delivery, Sent, delivery_of}
use Rattle.exec_adapt.specs.Adapts.{Ends}
use Rattle.exec_adapt.proofs.Adapting.{goes-only, goes-one, goes-open, back-passes, back-goes}
use Rattle.exec_adapt.proofs.adaptors.go_on.Goals as goal

pub take_back_into-requires-clause-only : goal.take_back_into-requires-clause-only
take_back_into-requires-clause-only g c = goes-only _ _ _ _ _ c.requires.may

pub take_back_into-requires-clause-one : goal.take_back_into-requires-clause-one
take_back_into-requires-clause-one g c = goes-one _ _ _ _ _ c.requires.may

pub take_back_into-requires-clause-opened : goal.take_back_into-requires-clause-opened
take_back_into-requires-clause-opened g c = goes-open _ _ _ _ _ c.requires.may

pub pass_on-requires : goal.pass_on-requires
pass_on-requires g c = record {
  may = back-passes _ _ _ _ _ c.requires.may _ _ c.take_back_into.ensures.takes (delivery_of c.in-Some.label c.take_back_into.new.done)
      (ap (λ (o : Option Sent). option_map (λ (label : Sent). delivery_of label c.take_back_into.new.done) o) c.in-Some.is);
}

pub go_on_again-requires : goal.go_on_again-requires
go_on_again-requires g c = record { may = back-goes _ _ _ _ _ c.requires.may _ _ c.take_back_into.ensures.takes }

pub returns-in-Some : goal.returns-in-Some
returns-in-Some g c =
    let label = c.in-Some.label in
    let is : option_map (λ (sent : Sent). delivery_of sent c.take_back_into.new.done) c.take_back_into.result
    ≡ Some (delivery_of label c.take_back_into.new.done) =
    ap (λ (o : Option Sent). option_map (λ (sent : Sent). delivery_of sent c.take_back_into.new.done) o) c.in-Some.is in
    record {
      answer = option_map (λ (sent : Sent). delivery_of sent c.take_back_into.new.done) c.take_back_into.result;
      middle = c.take_back_into.new.hand;
      takes = c.take_back_into.ensures.takes;
      ends = λ parcel other.
          subst (λ (p : Delivery). Ends c.args.site.now c.args.taken c.args.node.now p c.pass_on.result c.take_back_into.new.hand c.pass_on.new.hand)
          (same_Some (delivery_of label c.take_back_into.new.done) parcel (sym is ∙ other)) c.pass_on.ensures;
      again = λ none. let wrong = sym is ∙ none in cc;
    }

pub returns : goal.returns
returns g c =
    let is : option_map (λ (sent : Sent). delivery_of sent c.take_back_into.new.done) c.take_back_into.result ≡ None =
    ap (λ (o : Option Sent). option_map (λ (sent : Sent). delivery_of sent c.take_back_into.new.done) o) c.in-None.is in
    record {
      answer = option_map (λ (sent : Sent). delivery_of sent c.take_back_into.new.done) c.take_back_into.result;
      middle = c.take_back_into.new.hand;
      takes = c.take_back_into.ensures.takes;
      ends = λ parcel other. let wrong = sym is ∙ other in cc;
      again = λ _. c.go_on_again.ensures;
    }
