-- What lies in the home of a node, as contracts see it.
use Rattle.std.specs.Prelude.{List, Option}
use Rattle.home_items.specs.declared.entry.Entry.{Entry}
use Rattle.home_items.specs.Parcels.{Delivery}

-- The start of a node that has begun nothing yet; that of one that goes on later, with the parcel
-- of its child, where it keeps one; or the parcel of one that has completed.
pub data Content : Type 0 where
  Start : List Entry → Content
  Rest : List Entry → Option Delivery → Content
  Done : Delivery → Content
