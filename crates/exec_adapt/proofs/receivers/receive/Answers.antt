use Rattle.std.proofs.Common.{sym, ◌∙◌, subst}
use Rattle.std.proofs.lemmas.Option.{same_Some}
use Rattle.home_items.specs.Parcels.{Delivery}
use Rattle.exec_adapt.specs.Receives.{LeavesWith}
use Rattle.exec_adapt.proofs.Receiving.{back-leaves, back-rests}
use Rattle.exec_adapt.proofs.receivers.receive.Goals as goal

pub take_top-requires : goal.take_top-requires
take_top-requires g c = record { may = c.requires.may }

pub leave_at_rest-requires : goal.leave_at_rest-requires
leave_at_rest-requires g c = record { may = back-leaves _ _ _ _ c.requires.may _ _ c.take_top.ensures c.in-Some.parcel c.in-Some.is }

pub rest_again-requires : goal.rest_again-requires
rest_again-requires g c = record { may = back-rests _ _ _ _ c.requires.may _ _ c.take_top.ensures c.in-None.is }

pub returns-in-Some : goal.returns-in-Some
returns-in-Some g c =
    record {
      answer = c.take_top.result;
      middle = c.take_top.new.hand;
      takes = c.take_top.ensures;
      leaves = λ parcel other.
          subst (λ (p : Delivery). LeavesWith c.args.site.now c.args.taken c.args.child p c.leave_at_rest.result c.take_top.new.hand c.leave_at_rest.new.hand)
          (same_Some c.in-Some.parcel parcel (sym c.in-Some.is ∙ other)) c.leave_at_rest.ensures;
      again = λ none. let wrong = sym c.in-Some.is ∙ none in cc;
    }

pub returns-in-None : goal.returns-in-None
returns-in-None g c =
    record {
      answer = c.take_top.result;
      middle = c.take_top.new.hand;
      takes = c.take_top.ensures;
      leaves = λ parcel other. let wrong = sym c.in-None.is ∙ other in cc;
      again = λ _. c.rest_again.ensures;
    }
