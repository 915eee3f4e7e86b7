-- How an item keeps what lies in its home.
use Rattle.std.specs.Prelude.{⊤, List, Some, None}
use Rattle.home_items.specs.declared.entry.Entry.{Entry}
use Rattle.home_items.specs.declared.item.State.{State}
use Rattle.home_items.specs.declared.item.State.TheVariants.{Start as Begins, Rest as Rests, Kept as Keeps, Done as Ends}
use Rattle.home_items.specs.declared.item.Item.TheInside.{Inside}
use Rattle.home_items.specs.Contents.{Content, Start, Rest, Done}
use Rattle.home_items.specs.Environments.{IsEnvironment}
use Rattle.home_items.specs.Parcels.{Delivery, IsDelivery, parcel_with}

-- the parcel whose parts it has: its child's, or its own
abbrev pub parcel_inside : Inside → Delivery
parcel_inside i = parcel_with i.from.start i.completion i.saw

abbrev pub content_by : State → List Entry → Delivery → Content
content_by Begins start parcel = Start start
content_by Rests start parcel = Rest start None
content_by Keeps start parcel = Rest start (Some parcel)
content_by Ends start parcel = Done parcel

abbrev pub content_of : Inside → Content
content_of i = content_by i.state i.shown.start (parcel_inside i)

-- A node that goes on has the environment of its start.
abbrev pub HasEnvironment : State → Inside → Type 0
HasEnvironment Ends i = ⊤
HasEnvironment state i = IsEnvironment i.args i.number i.asked i.child i.shown.start

-- What it keeps of a child, or has completed with, is a delivery.
abbrev pub HasDelivery : State → Inside → Type 0
HasDelivery Keeps i = IsDelivery (parcel_inside i)
HasDelivery Ends i = IsDelivery (parcel_inside i)
HasDelivery state i = ⊤

pub record IsKept (i : Inside) : Type 0 where
  pub goes_on : HasEnvironment i.state i
  pub delivers : HasDelivery i.state i
