use Rattle.std.proofs.Common.{sym, ap, subst, ◌∙◌}
use Rattle.std.specs.Option.{option_map}
use Rattle.std.proofs.lemmas.Option.{same_Some}
use Rattle.home_items.specs.Parcels.{Delivery, delivery_of}
use Rattle.exec_bulk.specs.Steps.{CutsRow}
use Rattle.exec_bulk.proofs.Backed.{backed}
use Rattle.exec_bulk.proofs.Going.{back-goes, back-inner, back-runs}
use Rattle.exec_bulk.proofs.Places.{bulk-child}
use Rattle.exec_bulk.proofs.stepping.step_begun.Goals as goal

pub take_child_into-requires-clause-child : goal.take_child_into-requires-clause-child
take_child_into-requires-clause-child g c =
    let may = c.requires.may in
    bulk-child c.args.site.now c.args.taken.name c.args.child may.job may.opened.site may.node_is

pub take_child_into-requires-clause-opened : goal.take_child_into-requires-clause-opened
take_child_into-requires-clause-opened g c =
    let may = c.requires.may in record { inside = may.inside; kid = may.kid; is = may.opened }

pub go_on-requires : goal.go_on-requires
go_on-requires g c =
    record {
      may = back-goes _ _ _ _ _ c.requires.may _ c.take_child_into.ensures.takes (delivery_of c.in-Some.label c.take_child_into.new.done)
          (ap (option_map (λ label. delivery_of label c.take_child_into.new.done)) c.in-Some.is);
    }

pub start_again-requires-clause-inner : goal.start_again-requires-clause-inner
start_again-requires-clause-inner g c = back-inner _ _ _ _ _ c.requires.may _ c.take_child_into.ensures.takes

pub start_again-requires-clause-may : goal.start_again-requires-clause-may
start_again-requires-clause-may g c = back-runs _ _ _ _ _ c.requires.may _ c.take_child_into.ensures.takes _ c.asked-asked.ensures

pub returns-in-Some : goal.returns-in-Some
returns-in-Some g c =
    let done = c.take_child_into.new.done in
    let some = ap (option_map (λ label. delivery_of label done)) c.in-Some.is in
    record {
      answer = _;
      middle = c.take_child_into.new.hand;
      takes = backed _ _ _ _ _ c.requires.may _ c.take_child_into.ensures.takes;
      cuts = λ parcel is.
          subst (λ (p : Delivery). CutsRow c.args.site.now c.args.taken p c.go_on.result c.take_child_into.new.hand c.go_on.new.hand)
          (same_Some (delivery_of c.in-Some.label done) parcel (sym some ∙ is)) c.go_on.ensures;
      again = λ none. let wrong = sym some ∙ none in cc;
    }

pub returns : goal.returns
returns g c =
    let none = ap (option_map (λ label. delivery_of label c.take_child_into.new.done)) c.in-None.is in
    record {
      answer = _;
      middle = c.take_child_into.new.hand;
      takes = backed _ _ _ _ _ c.requires.may _ c.take_child_into.ensures.takes;
      cuts = λ parcel is. let wrong = sym none ∙ is in cc;
      again = λ _. c.start_again.ensures;
    }
