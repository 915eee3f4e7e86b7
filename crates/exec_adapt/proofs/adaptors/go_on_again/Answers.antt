use Rattle.std.proofs.Common.{sym, ◌∙◌, subst}
use Rattle.std.proofs.lemmas.Option.{same_Some}
use Rattle.home_items.specs.Parcels.{Delivery}
use Rattle.exec_adapt.specs.Adapts.{Ends}
use Rattle.exec_adapt.specs.Ends.{MayPass}
use Rattle.step_parts.proofs.Ended.{opens}
use Rattle.exec_adapt.proofs.Adapting.{kept-inner, kept-passes, kept-runs}
use Rattle.exec_adapt.proofs.adaptors.go_on_again.Goals as goal

pub take_kept-requires : goal.take_kept-requires
take_kept-requires g c = record { opened = opens _ _ _ _ _ c.requires.may.rested.is }

pub pass_on-requires : goal.pass_on-requires
pass_on-requires g c = record {
  may = subst (λ (p : Delivery). MayPass c.args.site.now c.args.taken c.args.node.now p c.take_kept.new.hand) c.open-label.ensures
      (kept-passes _ _ _ _ _ c.requires.may _ _ c.take_kept.ensures c.in-Some.parcel c.in-Some.is);
}

pub start_again-requires-clause-inner : goal.start_again-requires-clause-inner
start_again-requires-clause-inner g c = kept-inner _ _ _ _ _ c.requires.may _ _ c.take_kept.ensures

pub start_again-requires-clause-may : goal.start_again-requires-clause-may
start_again-requires-clause-may g c =
    kept-runs _ _ _ _ _ c.requires.may _ _ c.take_kept.ensures c.asked-asked.result c.asked-asked.ensures

pub returns-in-Some : goal.returns-in-Some
returns-in-Some g c =
    record {
      kept = c.take_kept.result;
      middle = c.take_kept.new.hand;
      takes = c.take_kept.ensures;
      ends = λ parcel other.
          subst (λ (p : Delivery). Ends c.args.site.now c.args.taken c.args.node.now p c.pass_on.result c.take_kept.new.hand c.pass_on.new.hand)
          (sym c.open-label.ensures ∙ same_Some c.in-Some.parcel parcel (sym c.in-Some.is ∙ other)) c.pass_on.ensures;
      starts = λ none. let wrong = sym c.in-Some.is ∙ none in cc;
    }

pub returns-in-None : goal.returns-in-None
returns-in-None g c =
    record {
      kept = c.take_kept.result;
      middle = c.take_kept.new.hand;
      takes = c.take_kept.ensures;
      ends = λ parcel other. let wrong = sym c.in-None.is ∙ other in cc;
      starts = λ _. c.start_again.ensures;
    }
