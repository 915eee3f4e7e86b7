-- Each of these ways ends the step.
use Rattle.std.proofs.Common.{◌≡◌, ℕ, Bool, true, false, ◌||◌, Option, Some, None, refl}
use Rattle.node_tree.specs.declared.context.Context.{Context}
use Rattle.plan_shape.specs.Blueprint.{Blueprint}
use Rattle.table_steps.specs.Views.{Board}
use Rattle.home_items.specs.Entries.{asked_of}
use Rattle.home_items.specs.Parcels.{Delivery}
use Rattle.exec_recv.specs.declared.next.Next.{Next}
use Rattle.exec_recv.specs.Seats.{HandSeat}
use Rattle.exec_recv.specs.Sites.{Steps}
use Rattle.step_parts.specs.Stepping.{Stepping}
use Rattle.step_parts.proofs.Started.{again-steps}
use Rattle.exec_hop.specs.Hops.{LandsIn, EndsWith, StartsOrStops, Lands}

module _ (board : Board Blueprint) (t : Stepping) (next : Next) where
  asked-cases : (new : HandSeat) (b : Bool) → (b ≡ true → Steps board t.name next t.from new) → (b ≡ false → Steps board t.name next t.from new) →
      Steps board t.name next t.from new
  asked-cases new true one other = one refl
  asked-cases new false one other = other refl

  pub lands-steps : (on : Context) (kept : Option Delivery) (old new : HandSeat) → LandsIn board t on kept next old new → Steps board t.name next t.from new
  lands-steps on kept old new lands = asked-cases new (asked_of t.start) (λ e. (lands.stops e).steps) (λ e. (lands.lands e).steps)

  pub ends-steps : (parcel : Delivery) (saw : Bool) (old new : HandSeat) → EndsWith board t parcel saw next old new → Steps board t.name next t.from new
  ends-steps parcel saw old new ends = asked-cases new (asked_of t.start || saw) (λ e. (ends.stops e).steps) (λ e. (ends.passes e).steps)

  pub stops-steps : (child : ℕ) (saw : Bool) (old new : HandSeat) → StartsOrStops board t child saw next old new → Steps board t.name next t.from new
  stops-steps child saw old new starts =
      asked-cases new (asked_of t.start || saw) (λ e. (starts.stops e).steps) (λ e. again-steps board t child next old new (starts.starts e))

  pub goes-steps : (child : ℕ) (old new : HandSeat) → Lands board t child next old new → Steps board t.name next t.from new
  goes-steps child old new lands = of lands.kept refl
    where
      of : (o : Option Delivery) → lands.kept ≡ o → Steps board t.name next t.from new
      of None e = stops-steps child false lands.middle new (lands.starts e)
      of (Some parcel) e = let looks = lands.ends parcel e in ends-steps parcel looks.saw looks.middle new looks.ends
