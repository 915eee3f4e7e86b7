-- What the step of a node finds where its child was reported last, and what that is enough for.
use Rattle.std.specs.Prelude.{ℕ, IsFalse, Bool, List, Contains, Some}
use Rattle.plan_rules.specs.declared.node.Node.{Node}
use Rattle.plan_shape.specs.PlanTree.{is_when_all, tree_of}
use Rattle.home_items.specs.declared.entry.Entry.{Entry}
use Rattle.home_items.specs.Contents.{Rest, Done}
use Rattle.home_items.specs.Entries.{plan_of, asked_of}
use Rattle.home_items.specs.Starts.{IsReceiverStart}
use Rattle.home_items.specs.Parcels.{Delivery, MayDeliver}
use Rattle.home_items.specs.Fits.{FitsHome, MayRest}
use Rattle.start_laws.specs.Nodes.{IsStartOf, plain_children, image_of, MakesImage, JobTakes}
use Rattle.start_laws.specs.Holding.{IsHeld, IsDoneBelow, IsFromBelow, PassesTold}

-- The hand holds node n with this start, and the child of this number is done with this parcel.
pub record IsReported (start : List Entry) (n : ℕ) (told : Bool) (parcel : Delivery) (child : ℕ) :
    Type 0 where
  pub held : IsHeld start n told
  pub told_children : Bool
  pub hears : PassesTold (tree_of (plan_of start).nodes) n told told_children
  pub done : IsDoneBelow start parcel child told_children

-- The node may end with the image of its child's completion: its job takes that, and the image may
-- be delivered, and may lie in the node's home.
pub record MayEnd (start : List Entry) (node : Node) (n : ℕ) (told : Bool) (parcel : Delivery) :
    Type 0 where
  pub takes : JobTakes node parcel.completion
  pub may : MayDeliver start parcel.saw (image_of node (asked_of start) parcel.completion)
  pub fits : FitsHome (Done (record {
    start = start;
    completion = image_of node (asked_of start) parcel.completion;
    saw = parcel.saw;
  })) n told

-- The node may keep its child's parcel, and rest with it.
pub record MayKeep (start : List Entry) (n : ℕ) (told : Bool) (parcel : Delivery) : Type 0 where
  pub from : IsFromBelow start parcel told
  pub fits : FitsHome (Rest start (Some parcel)) n told
  pub rests : MayRest (Rest start (Some parcel)) n

-- Where the one child was reported that a node awaits, or the one that the start of the receiver
-- node names, the node may keep its parcel; and a node that makes an image of it may end.
pub record StepsMayEnd : Type 0 where
  pub ends : (start : List Entry) (node : Node) → IsStartOf start node →
      IsFalse (is_when_all node) → (n : ℕ) (told : Bool) (parcel : Delivery) (child : ℕ) →
      IsReported start n told parcel child → Contains (plain_children node) child →
      MakesImage node parcel.completion → MayEnd start node n told parcel
  pub keeps : (start : List Entry) (node : Node) → IsStartOf start node →
      IsFalse (is_when_all node) → (n : ℕ) (told : Bool) (parcel : Delivery) (child : ℕ) →
      IsReported start n told parcel child → Contains (plain_children node) child →
      MayKeep start n told parcel
  pub top : (start : List Entry) → IsReceiverStart start →
      (n : ℕ) (told : Bool) (parcel : Delivery) (child : ℕ) →
      IsReported start n told parcel child → MayKeep start n told parcel
