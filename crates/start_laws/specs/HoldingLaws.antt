-- What a hand learns of a node and of what its child delivered, and what it may put into the home.
use Rattle.std.specs.Prelude.{◌≡◌, ◌≢◌, ℕ, ◌<◌, IsFalse, Bool, true, false, List, ◌∷◌, length, Contains, Option, Some, None, slice_get}
use Rattle.exec_value.specs.declared.outcome.Completion.{Completion}
use Rattle.exec_value.specs.declared.outcome.Completion.TheVariants.{NoMemory}
use Rattle.exec_job.specs.declared.job.Job.{Job}
use Rattle.node_tree.specs.Tree.{is_child}
use Rattle.plan_rules.specs.declared.node.Node.{Node}
use Rattle.plan_rules.specs.declared.node.Node.TheVariants.{Bulk, Part}
use Rattle.plan_kinds.specs.Runs.{bodies_of}
use Rattle.plan_shape.specs.Blueprint.{IsPlan}
use Rattle.plan_shape.specs.PlanTree.{is_when_all, tree_of}
use Rattle.plan_kinds.specs.Small.{IsSmall}
use Rattle.home_items.specs.declared.entry.Entry.{Entry}
use Rattle.home_items.specs.declared.item.Item.{Item}
use Rattle.home_items.specs.Contents.{Start, Rest, Done}
use Rattle.home_items.specs.Entries.{plan_of, node_of, asked_of, child_of}
use Rattle.home_items.specs.Starts.{IsReceiverStart, IsStart}
use Rattle.home_items.specs.Parcels.{Delivery, IsDelivery}
use Rattle.home_items.specs.Items.{start_in, HasCompleted}
use Rattle.home_items.specs.Fits.{FitsHome, MayRest}
use Rattle.start_laws.specs.Nodes.{start_node, IsStartOf, plain_children, image_of, MakesImage, MayHaveSeen}
use Rattle.start_laws.specs.Holding.{IsHeld, IsDoneBelow, IsFromBelow, PassesTold}

-- What lies in the homes tells this.
pub record HomesTell : Type 0 where
  -- the node's own item, which is no completion
  pub held : (item : Item) (start : List Entry) (n : ℕ) (told : Bool) → IsStart start →
      start_in item ≡ start → FitsHome item n told → ¬ HasCompleted item → IsHeld start n told
  -- the item of a done child, whose start goes on with the node's
  pub done : (start : List Entry) → IsStart start → (parcel : Delivery) → IsDelivery parcel →
      (e : Entry) → parcel.start ≡ e ∷ start → (child : ℕ) → child < node_of start →
      (told : Bool) → FitsHome (Done parcel) child told → IsDoneBelow start parcel child told
  -- a rest that kept its child's parcel
  pub kept : (start : List Entry) (parcel : Delivery) (n : ℕ) (told : Bool) → IsDelivery parcel →
      FitsHome (Rest start (Some parcel)) n told → IsFromBelow start parcel told

-- Where the children of a node stand: below it in the plan's tree, so with smaller numbers.
pub record StandsBelow (start : List Entry) (child : ℕ) : Type 0 where
  pub smaller : child < node_of start
  pub is_child : is_child (tree_of (plan_of start).nodes) (node_of start) child ≡ true

pub record ChildrenStand : Type 0 where
  pub plain : (start : List Entry) (node : Node) → IsStartOf start node →
      (child : ℕ) → Contains (plain_children node) child → StandsBelow start child
  pub body : (start : List Entry) (node : Node) → IsStartOf start node →
      (body : ℕ) → Contains (bodies_of node) body → StandsBelow start body
  pub part : (start : List Entry) (child : ℕ) (job : Job) → IsStartOf start (Bulk child job) →
      (n part : ℕ) → slice_get (plan_of start).nodes n ≡ Some (Part (node_of start) part) →
      StandsBelow start n
  -- the child that a start of the receiver node names
  pub top : (start : List Entry) → IsReceiverStart start → IsPlan (plan_of start) →
      (child : ℕ) → child_of start ≡ Some child → StandsBelow start child

-- Which node is the receiver node, and which children run with their parent's arguments.
pub record PlacesTell : Type 0 where
  -- the node behind the plan's root is the receiver node
  pub receiver : (start : List Entry) → IsStart start → IsPlan (plan_of start) →
      node_of start ≡ length (plan_of start).nodes → IsReceiverStart start
  -- a child runs with the arguments of its parent where it is none of a let's bodies, and no part
  pub plain : (start : List Entry) (node : Node) → IsStartOf start node →
      (parcel : Delivery) (child : ℕ) (told : Bool) → IsDoneBelow start parcel child told →
      Contains (plain_children node) child → IsFromBelow start parcel told
  -- the one below the receiver node is the one that the start names
  pub top : (start : List Entry) → IsReceiverStart start →
      (parcel : Delivery) (child : ℕ) (told : Bool) → IsDoneBelow start parcel child told →
      IsFromBelow start parcel told

-- A node that is held may keep this in its home.
pub record HomesFit : Type 0 where
  -- its start, or a rest, as long as its child hasn't completed
  pub start : (start : List Entry) (n : ℕ) (told : Bool) → IsHeld start n told →
      FitsHome (Start start) n told
  pub rest : (start : List Entry) (n : ℕ) (told : Bool) → IsHeld start n told →
      FitsHome (Rest start None) n told
  -- a rest with its child's parcel
  pub kept : (start : List Entry) (n : ℕ) (told : Bool) → IsHeld start n told →
      (parcel : Delivery) → IsFromBelow start parcel told →
      FitsHome (Rest start (Some parcel)) n told
  -- its own completion
  pub done : (start : List Entry) (n : ℕ) (told : Bool) → IsHeld start n told →
      (completion : Completion) (saw : Bool) → (told ≡ false → saw ≡ false) →
      (IsSmall (plan_of start) → completion ≢ NoMemory) →
      FitsHome (Done (record { start = start; completion = completion; saw = saw })) n told
  -- the image of its child's completion
  pub image : (start : List Entry) (n : ℕ) (told : Bool) → IsHeld start n told →
      (node : Node) → IsStartOf start node → (parcel : Delivery) → IsFromBelow start parcel told →
      MakesImage node parcel.completion → MayHaveSeen node parcel.saw →
      FitsHome (Done (record {
        start = start;
        completion = image_of node (asked_of start) parcel.completion;
        saw = parcel.saw;
      })) n told

-- What may rest: a node of the plan with its child's parcel or without one, and the receiver node
-- with its child's parcel.
pub record NodesMayRest : Type 0 where
  pub node : (start : List Entry) (node : Node) → start_node start ≡ Some node →
      (kept : Option Delivery) → MayRest (Rest start kept) (node_of start)
  pub top : (start : List Entry) (n : ℕ) (told : Bool) (parcel : Delivery) →
      IsFromBelow start parcel told → MayRest (Rest start (Some parcel)) n

-- What is known of requests.
pub record RequestsAreTold : Type 0 where
  -- where none was told of the source that a node hears, none was of the one that its children
  -- hear, save below a `when_all`
  pub calm : (start : List Entry) (node : Node) → IsStartOf start node →
      IsFalse (is_when_all node) → (told told_children : Bool) →
      PassesTold (tree_of (plan_of start).nodes) (node_of start) told told_children →
      told ≡ false → told_children ≡ false
  -- below the receiver node the same is told
  pub top : (start : List Entry) → IsReceiverStart start → (told told_children : Bool) →
      PassesTold (tree_of (plan_of start).nodes) (node_of start) told told_children →
      told_children ≡ told
  -- what the child of an `unstoppable` saw: nothing
  pub seen : (start : List Entry) (node : Node) → IsStartOf start node →
      (told told_children : Bool) →
      PassesTold (tree_of (plan_of start).nodes) (node_of start) told told_children →
      (parcel : Delivery) → IsFromBelow start parcel told_children → MayHaveSeen node parcel.saw
  -- what is known where less was told is known where more was
  pub held : (start : List Entry) (n : ℕ) (told more : Bool) → (more ≡ false → told ≡ false) →
      IsHeld start n told → IsHeld start n more
  pub from : (start : List Entry) (parcel : Delivery) (told more : Bool) →
      (more ≡ false → told ≡ false) → IsFromBelow start parcel told → IsFromBelow start parcel more
