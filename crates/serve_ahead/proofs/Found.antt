-- An `ahead` that was taken where it was parked is at hand, with what its second child completed with.
use Rattle.std.proofs.Common.{◌≡◌, Option, Some, refl, sym, subst}
use Rattle.std.specs.Prelude.{IfSome}
use Rattle.life_rules.specs.declared.event.Name.{Name}
use Rattle.plan_shape.specs.Blueprint.{Blueprint}
use Rattle.table_steps.specs.Views.{Board}
use Rattle.home_items.specs.Parcels.{Delivery}
use Rattle.exec_recv.specs.Asides.{KeepsAside}
use Rattle.exec_recv.specs.Seats.{HandSeat}
use Rattle.step_parts.specs.declared.taken.TakenUp.{TakenUp}
use Rattle.step_parts.specs.Takes.{parcel_of, HasParcel, TakesUp}
use Rattle.step_parts.proofs.Took.{parcel-own, below-none, parcel-below}
use Rattle.node_walks.specs.Resting.{CanGoOn}
use Rattle.serve_ahead.specs.declared.taking.AheadAt.{AheadAt}
use Rattle.serve_ahead.specs.Takes.{FindsSecond, HasAtHand, IsAheadIn}

module _ (board : Board Blueprint) (at : AheadAt) (up : TakenUp) (held new : HandSeat) (takes : TakesUp board at.name (Some at.second) up held new) where
  pub since-taken : KeepsAside held.me new.me
  since-taken = subst (λ (h : HandSeat). KeepsAside h.me new.me) takes.from_is takes.is.beside.aside

  module _ (second : Option Delivery) (is : second ≡ parcel_of up.found) where
    pub at-hand : IsAheadIn board at → CanGoOn board at.name held.me → HasAtHand board at up.taken second new
    at-hand ahead could =
        record {
          name_is = takes.name_is;
          ahead = ahead;
          could = subst (λ (h : HandSeat). CanGoOn board up.taken.name h.me) (sym takes.from_is)
              (subst (λ (x : Name). CanGoOn board x held.me) (sym takes.name_is) could);
          taken = takes.is;
          parcel = subst (λ (o : Option Delivery). IfSome o (HasParcel board up.taken new.me)) (sym is) takes.parcel;
        }

    pub finds-second : FindsSecond board at.name at.second second up.taken.from.me
    finds-second =
        subst (λ (h : HandSeat). FindsSecond board at.name at.second second h.me) (sym takes.from_is)
        (subst (λ (o : Option Delivery). FindsSecond board at.name at.second o held.me) (sym is)
        (record {
          keeps = λ can none.
              parcel-own up.found up.taken.start can.item (takes.own can)
              (below-none up.found (can.kid at.second) (takes.lay can at.second refl) none);
          back = λ can parcel full. parcel-below up.found (can.kid at.second) parcel (takes.lay can at.second refl) full;
        }))
