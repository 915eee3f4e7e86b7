-- What holds of the bodies of a let ([exec.let]).
use Rattle.std.specs.Prelude.{◌≡◌, ℕ, Bool, false, List, [], Contains, Some}
use Rattle.exec_value.specs.declared.data.Datum.{Datum}
use Rattle.exec_job.specs.Apply.{apply_of, ending}
use Rattle.plan_rules.specs.declared.node.Node.{Node}
use Rattle.plan_kinds.specs.Runs.{bodies_of}
use Rattle.node_images.specs.Picks.{picked_body}
use Rattle.home_items.specs.declared.entry.Entry.{Entry}
use Rattle.home_items.specs.Entries.{asked_of, start_below}
use Rattle.home_items.specs.Parcels.{Delivery, MayDeliver, IsDelivery}
use Rattle.home_items.specs.Fits.{IsChildOf}
use Rattle.start_laws.specs.Nodes.{IsStartOf}
use Rattle.start_laws.specs.Holding.{IsDoneBelow}
use Rattle.start_laws.specs.Lets.{channel_of, pick_of}
use Rattle.start_laws.specs.Laws.{MayBegin}

-- The body that is picked by the data of the child's completion may begin with these data. Where no
-- request is known, the child's parcel must have seen none.
abbrev pub BodiesMayBegin : Type 0
BodiesMayBegin =
    (start : List Entry) (node : Node) → IsStartOf start node →
    (parcel : Delivery) → IsDelivery parcel → IsChildOf parcel.start start →
    (values : List Datum) → channel_of node parcel.completion ≡ Some values →
    (body : ℕ) →
    picked_body (ending (apply_of (pick_of node) values)) (bodies_of node) ≡ Some body →
    (requested : Bool) → (requested ≡ false → parcel.saw ≡ false) →
    MayBegin (start_below body values [] (asked_of start) start) body requested

-- What a body completes with may be delivered for the let's own start: as unseen where no request
-- was told that the let's children heard.
abbrev pub BodiesAreAllowed : Type 0
BodiesAreAllowed =
    (start : List Entry) (node : Node) → IsStartOf start node →
    (parcel : Delivery) (body : ℕ) (told : Bool) → IsDoneBelow start parcel body told →
    Contains (bodies_of node) body →
    (saw : Bool) → (saw ≡ false → told ≡ false) → MayDeliver start saw parcel.completion
