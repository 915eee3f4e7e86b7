-- What nodes complete with is allowed for their own starts, and their children's starts are starts.
use Rattle.std.specs.Prelude.{◌≡◌, ◌≢◌, ◌||◌, ℕ, ◌≤◌, IsTrue, IsFalse, Bool, false, List, [], Contains, Option, Some, None}
use Rattle.exec_value.specs.declared.outcome.Completion.TheVariants.{Stopped, NoMemory}
use Rattle.plan_rules.specs.declared.node.Node.{Node}
use Rattle.plan_shape.specs.PlanTree.{is_when_all}
use Rattle.home_items.specs.declared.entry.Entry.{Entry}
use Rattle.home_items.specs.Contents.{Start, Rest, Done}
use Rattle.home_items.specs.Entries.{args_of, asked_of, child_of, start_below}
use Rattle.home_items.specs.Starts.{IsReceiverStart, BeginsBelow}
use Rattle.home_items.specs.Below.{asked_below}
use Rattle.home_items.specs.Parcels.{Delivery, MayDeliver, IsDelivery}
use Rattle.home_items.specs.Bounds.{least_of}
use Rattle.home_items.specs.Fits.{FitsChild, IsChildOf, FitsHome}
use Rattle.start_laws.specs.Nodes.{start_node, IsStartOf, plain_children, image_of, MakesImage, AwaitsOne, MayHaveSeen, JobTakes}
use Rattle.start_laws.specs.Leaves.{IsLeaf, leaf_of, IsStoppable}

-- What a node makes of its child's completion may be delivered for its own start, as seen where the
-- child saw a request.
abbrev pub ImagesAreAllowed : Type 0
ImagesAreAllowed =
    (start : List Entry) (node : Node) → IsStartOf start node →
    (parcel : Delivery) → IsDelivery parcel → IsChildOf parcel.start start →
    MakesImage node parcel.completion → MayHaveSeen node parcel.saw →
    MayDeliver start parcel.saw (image_of node (asked_of start) parcel.completion)

-- Want of memory stays so, but where a request stops a hop; nothing else becomes want of memory.
pub record WantPasses : Type 0 where
  pub stays : (node : Node) → image_of node false NoMemory ≡ NoMemory
  pub no_other : (start : List Entry) (node : Node) → IsStartOf start node →
      (parcel : Delivery) → IsDelivery parcel → IsChildOf parcel.start start →
      MakesImage node parcel.completion → MayHaveSeen node parcel.saw →
      parcel.completion ≢ NoMemory → image_of node (asked_of start) parcel.completion ≢ NoMemory

-- A node's job takes what its child completed with.
abbrev pub JobsTakeTheirData : Type 0
JobsTakeTheirData =
    (start : List Entry) (node : Node) → IsStartOf start node →
    (parcel : Delivery) → IsDelivery parcel → IsChildOf parcel.start start →
    JobTakes node parcel.completion

-- What a node without children completes with may be delivered, as seen where it saw a request.
pub record LeavesAreAllowed : Type 0 where
  pub unseen : (start : List Entry) (node : Node) → IsStartOf start node → IsLeaf node →
      MayDeliver start false (leaf_of node (asked_of start) start)
  pub seen : (start : List Entry) (node : Node) → IsStartOf start node → IsLeaf node →
      (saw : Bool) → MayDeliver start saw (leaf_of node (asked_of start || saw) start)

-- Where a request was made before the operation was started, or one was seen, a node that a request
-- stops may deliver stopped.
abbrev pub StopsAreAllowed : Type 0
StopsAreAllowed =
    (start : List Entry) (node : Node) → IsStartOf start node → IsStoppable node →
    (saw : Bool) → IsTrue (asked_of start || saw) → MayDeliver start saw Stopped

-- A child may begin with this start: its environment may be made, and may lie in the child's home.
pub record MayBegin (start : List Entry) (child : ℕ) (requested : Bool) : Type 0 where
  pub begins : BeginsBelow start
  pub fits : FitsHome (Start start) child requested

-- A child that runs with its parent's arguments may begin with them, whatever was requested; so may
-- the one that a start of the receiver node names.
pub record ChildrenMayBegin : Type 0 where
  pub below : (start : List Entry) (node : Node) → IsStartOf start node →
      (child : ℕ) → Contains (plain_children node) child → (requested : Bool) →
      MayBegin
      (start_below child (args_of start) [] (asked_below (Some node) (asked_of start)) start)
      child requested
  pub top : (start : List Entry) → IsReceiverStart start → FitsChild start →
      (child : ℕ) → child_of start ≡ Some child → (requested : Bool) →
      MayBegin (start_below child (args_of start) [] (asked_of start) start) child requested

-- How many children a node must have begun. When it is done: at most one where it awaits one at a
-- time; and none where it has none, where a request stops it, or where it is want of memory. When
-- it rests: none without its child's parcel, save a `when_all`; with it at most one, likewise.
pub record FewAreBegun : Type 0 where
  pub one : (parcel : Delivery) (node : Node) → start_node parcel.start ≡ Some node →
      AwaitsOne node → least_of (Done parcel) ≤ 1
  pub leaf : (parcel : Delivery) (node : Node) → start_node parcel.start ≡ Some node →
      IsLeaf node → least_of (Done parcel) ≡ 0
  pub stopped : (parcel : Delivery) (node : Node) → start_node parcel.start ≡ Some node →
      IsStoppable node → parcel.completion ≡ Stopped → least_of (Done parcel) ≡ 0
  pub want : (parcel : Delivery) → parcel.completion ≡ NoMemory → least_of (Done parcel) ≡ 0
  pub idle : (start : List Entry) (node : Node) → start_node start ≡ Some node →
      IsFalse (is_when_all node) → least_of (Rest start None) ≡ 0
  pub rest : (start : List Entry) (node : Node) → start_node start ≡ Some node →
      AwaitsOne node → (kept : Option Delivery) → least_of (Rest start kept) ≤ 1
  pub top_idle : (start : List Entry) → IsReceiverStart start → least_of (Rest start None) ≡ 0
  pub top_rest : (start : List Entry) → IsReceiverStart start →
      (kept : Option Delivery) → least_of (Rest start kept) ≤ 1
