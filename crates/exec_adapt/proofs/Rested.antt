-- What a node that had begun kept of its child.
use Rattle.std.proofs.Common.{◌≡◌, ◌≤◌, List, Option, Some, None, sym, ap, ◌∙◌, subst, arith}
use Rattle.std.specs.Prelude.{IfSome}
use Rattle.std.proofs.lemmas.Option.{same_Some}
use Rattle.plan_shape.specs.Blueprint.{Blueprint}
use Rattle.table_rules.specs.declared.view.Held.{Held}
use Rattle.table_steps.specs.Views.{Board}
use Rattle.home_items.specs.declared.entry.Entry.{Entry}
use Rattle.home_items.specs.declared.item.Item.{Item}
use Rattle.home_items.specs.Bounds.{least_of}
use Rattle.home_items.specs.Contents.{Start, Rest, Done}
use Rattle.home_items.specs.Fits.{IsItemOf}
use Rattle.home_items.specs.Items.{GoesOn, parcel_in, saw_in, start_in, without_parcel}
use Rattle.home_items.specs.Parcels.{Delivery, IsDelivery}
use Rattle.exec_recv.specs.Seats.{HandSeat}
use Rattle.step_parts.specs.Stepping.{Stepping}
use Rattle.step_parts.specs.Takes.{HasParcel, IsOpenWith, IsTaken, TakesKept}
use Rattle.step_parts.proofs.Ended.{open-taken}
use Rattle.step_parts.proofs.Frames.{named-so}
use Rattle.step_parts.proofs.Telling.{kept-from}
use Rattle.exec_adapt.specs.Ends.{HasRested}

-- what goes on with a parcel is a rest
rest-of : (inside : Item) → GoesOn inside → (parcel : Delivery) → parcel_in inside ≡ Some parcel → inside ≡ Rest (start_in inside) (Some parcel)
rest-of (Start start) on parcel is = cc
rest-of (Rest start kept) on parcel is = ap (Rest start) is
rest-of (Done done) on parcel is = absurd (on tt)

module _ (board : Board Blueprint) (t : Stepping) (inside : Item) (old new : HandSeat) (rested : HasRested board t inside (λ _. None) old)
    (kept : Option Delivery) (takes : TakesKept board t kept old new) where
  left : IsOpenWith board t (without_parcel inside) (λ _. None) new
  left = takes.left inside (λ _. None) rested.is

  -- the step goes on with nothing in the homes of the children
  pub kept-taken : IsTaken board t new
  kept-taken = open-taken board t (without_parcel inside) new left

  -- with the parcel of its child, where it kept one
  module _ (parcel : Delivery) (is : kept ≡ Some parcel) (one : least_of (Rest t.start (Some parcel)) ≡ 1) where
    lay : parcel_in inside ≡ Some parcel
    lay = takes.lay inside (λ _. None) rested.is ∙ is

    rest : inside ≡ Rest t.start (Some parcel)
    rest =
        rest-of inside rested.is.midway.goes_on parcel lay
        ∙ ap (λ (s : List Entry). Rest s (Some parcel)) rested.is.midway.inside_is

    same : rested.is.midway.held ≡ left.midway.held
    same =
        same_Some rested.is.midway.held left.midway.held
        (sym rested.is.midway.tends.holds ∙ sym takes.keeps.same_held ∙ left.midway.tends.holds)

    some : 1 ≤ left.midway.held.named
    some =
        let named : least_of inside ≤ left.midway.held.named =
        subst (λ (h : Held Entry). least_of inside ≤ h.named) same rested.is.midway.named in
        let least : least_of inside ≡ 1 = ap least_of rest ∙ one in
        omega (arith, named, least)

    pub kept-has : HasParcel board t new.me parcel
    kept-has = record {
      ready = record {
        inside = without_parcel inside;
        is = named-so board t.name t.start (without_parcel inside) new.me (least_of (without_parcel inside)) 1 (λ _. None) left.midway some;
      };
      from = kept-from board t new.me parcel (subst (λ (i : Item). IsItemOf i t.name.node) rest rested.of)
          (subst (λ (o : Option Delivery). IfSome o IsDelivery) is takes.lawful)
          (λ none. ap saw_in (sym rest) ∙ rested.saw (sym takes.keeps.heard ∙ none));
    }
