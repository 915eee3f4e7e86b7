use Rattle.std.proofs.Common.{sym, ◌∙◌, subst}
use Rattle.std.proofs.lemmas.Option.{same_Some}
use Rattle.home_items.specs.Parcels.{Delivery}
use Rattle.step_parts.proofs.Ended.{opens}
use Rattle.exec_adapt.specs.Receives.{LeavesWith}
use Rattle.exec_adapt.proofs.Receiving.{kept-leaves, kept-reads}
use Rattle.exec_adapt.proofs.receivers.rest_again.Goals as goal

pub take_kept-requires : goal.take_kept-requires
take_kept-requires g c = record { opened = opens _ _ _ _ _ c.requires.may.rested.is }

pub leave_at_rest-requires : goal.leave_at_rest-requires
leave_at_rest-requires g c = record { may = kept-leaves _ _ _ _ c.requires.may _ _ c.take_kept.ensures c.in-Some.kept c.in-Some.is }

pub start_again_top-requires : goal.start_again_top-requires
start_again_top-requires g c = record { may = kept-reads _ _ _ _ c.requires.may _ _ c.take_kept.ensures c.in-None.is }

pub returns-in-Some : goal.returns-in-Some
returns-in-Some g c =
    record {
      kept = c.take_kept.result;
      middle = c.take_kept.new.hand;
      takes = c.take_kept.ensures;
      leaves = λ parcel other.
          subst (λ (p : Delivery). LeavesWith c.args.site.now c.args.taken c.args.child p c.leave_at_rest.result c.take_kept.new.hand c.leave_at_rest.new.hand)
          (same_Some c.in-Some.kept parcel (sym c.in-Some.is ∙ other)) c.leave_at_rest.ensures;
      reads = λ none. let wrong = sym c.in-Some.is ∙ none in cc;
    }

pub returns-in-None : goal.returns-in-None
returns-in-None g c =
    record {
      kept = c.take_kept.result;
      middle = c.take_kept.new.hand;
      takes = c.take_kept.ensures;
      leaves = λ parcel other. let wrong = sym c.in-None.is ∙ other in cc;
      reads = λ _. c.start_again_top.ensures;
    }
