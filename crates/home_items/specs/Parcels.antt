-- What a node delivers to its parent ([exec.recv]).
use Rattle.std.specs.Prelude.{◌≡◌, ◌⊎◌, Bool, List, [], ◌∷◌}
use Rattle.exec_value.specs.declared.outcome.Completion.{Completion}
use Rattle.exec_value.specs.declared.outcome.Completion.TheVariants.{NoMemory}
use Rattle.home_items.specs.declared.entry.Entry.{Entry}
use Rattle.home_items.specs.Below.{AllowedWith}
use Rattle.home_items.specs.Starts.{IsStart}

-- a completion, whether a request was seen, and the start of the node that delivers it
pub record Delivery : Type 0 where
  pub start : List Entry
  pub completion : Completion
  pub saw : Bool

-- the parcel of a node with this start
abbrev pub parcel_with : List Entry → Completion → Bool → Delivery
parcel_with start done saw = record { start = start; completion = done; saw = saw }

-- what a parcel says beside its completion
pub record Sent : Type 0 where
  pub start : List Entry
  pub saw : Bool

abbrev pub delivery_of : Sent → Completion → Delivery
delivery_of sent done = parcel_with sent.start done sent.saw

-- The completion is allowed for the start of the node: where the request stood before the operation
-- was started, where one was seen, or where there was none.
abbrev pub AllowedFor : List Entry → Bool → Completion → Type 0
AllowedFor [] saw completion = ⊥
AllowedFor (e ∷ above) saw completion = AllowedWith e saw e.node completion

-- A node may deliver what is allowed, and want of memory.
abbrev pub MayDeliver : List Entry → Bool → Completion → Type 0
MayDeliver start saw completion = (completion ≡ NoMemory) ⊎ AllowedFor start saw completion

-- what every parcel keeps
pub record IsDelivery (parcel : Delivery) : Type 0 where
  pub start : IsStart parcel.start
  pub may : MayDeliver parcel.start parcel.saw parcel.completion
