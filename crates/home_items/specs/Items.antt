-- What lies in a home, as far as others read it.
use Rattle.std.specs.Prelude.{⊤, ℤ, Bool, true, false, List, [], ◌∷◌, slice_get, Option, Some, None}
use Rattle.std.specs.Option.{option_map, option_map_or}
use Rattle.exec_value.specs.declared.data.Datum.TheVariants.{Row}
use Rattle.exec_value.specs.declared.outcome.Completion.{Completion}
use Rattle.exec_value.specs.declared.outcome.Completion.TheVariants.{Value}
use Rattle.plan_rules.specs.declared.node.Node.{Node}
use Rattle.plan_rules.specs.declared.node.Node.TheVariants.{Bulk}
use Rattle.home_items.specs.declared.entry.Entry.{Entry}
use Rattle.home_items.specs.declared.item.Item.{Item}
use Rattle.home_items.specs.declared.item.State.{State}
use Rattle.home_items.specs.declared.item.State.TheVariants.{Start as Begins, Rest as Rests, Kept as Keeps, Done as Ends}
use Rattle.home_items.specs.Contents.{Start, Rest, Done}
use Rattle.home_items.specs.Entries.{plan_of, node_of, row_lot, no_row}
use Rattle.home_items.specs.Parcels.{Delivery}

-- the start of the item's node
abbrev pub start_in : Item → List Entry
start_in (Start start) = start
start_in (Rest start kept) = start
start_in (Done parcel) = parcel.start

-- the parcel in it: the child's, which a rest may keep, or the node's own
abbrev pub parcel_in : Item → Option Delivery
parcel_in (Start start) = None
parcel_in (Rest start kept) = kept
parcel_in (Done parcel) = Some parcel

abbrev pub completion_in : Item → Option Completion
completion_in item = option_map (λ (parcel : Delivery). parcel.completion) (parcel_in item)

-- whether the parcel in it saw a request
abbrev pub saw_in : Item → Bool
saw_in item = option_map_or (λ (parcel : Delivery). parcel.saw) (parcel_in item) false

-- the node has completed
abbrev pub HasCompleted : Item → Type 0
HasCompleted (Done parcel) = ⊤
HasCompleted item = ⊥

-- the node of the item's start
abbrev pub item_node : Item → Option Node
item_node item = slice_get (plan_of (start_in item)).nodes (node_of (start_in item))

-- the row that a bulk cuts into parts
-- the lot of what a node keeps: of a bulk that of its child's row
abbrev pub lot_for : Option Node → Completion → List ℤ
lot_for (Some (Bulk child job)) (Value (Row numbers ∷ [])) = row_lot numbers
lot_for _ completion = no_row

-- What the item of a node that awaits children fixes for them. A node that has begun nothing fixes
-- nothing.
abbrev pub lot_of : Item → List ℤ
lot_of (Rest start (Some parcel)) =
    lot_for (item_node (Rest start (Some parcel))) parcel.completion
lot_of (Rest start None) = no_row
lot_of item = []

-- the node goes on
abbrev pub GoesOn : Item → Type 0
GoesOn item = ¬ HasCompleted item

-- the node has begun nothing yet
abbrev pub is_start : Item → Bool
is_start (Start start) = true
is_start item = false

-- the same, but that nothing of the child is kept
abbrev pub without_parcel : Item → Item
without_parcel (Rest start kept) = Rest start None
without_parcel item = item

-- how far the node has come
abbrev pub state_of : Item → State
state_of (Start start) = Begins
state_of (Rest start None) = Rests
state_of (Rest start (Some parcel)) = Keeps
state_of (Done parcel) = Ends
