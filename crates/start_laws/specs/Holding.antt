-- What a hand knows of a node that it holds, and of a parcel that the node's child delivered.
use Rattle.std.specs.Prelude.{◌≡◌, ◌≢◌, ℕ, Bool, true, false, List, ◌∷◌}
use Rattle.exec_value.specs.declared.outcome.Completion.TheVariants.{NoMemory}
use Rattle.node_tree.specs.declared.node.TreeNode.{TreeNode}
use Rattle.node_tree.specs.Tree.{has_source, is_unstoppable}
use Rattle.plan_kinds.specs.Small.{IsSmall}
use Rattle.home_items.specs.declared.entry.Entry.{Entry}
use Rattle.home_items.specs.Entries.{plan_of, node_of}
use Rattle.home_items.specs.Starts.{IsStart, NeedsNoRequest}
use Rattle.home_items.specs.Parcels.{Delivery, IsDelivery}
use Rattle.home_items.specs.Fits.{FitsChild, IsChildOf}

-- The hand holds node n with this start, and was told of a request above it, or of none.
pub record IsHeld (start : List Entry) (n : ℕ) (told : Bool) : Type 0 where
  pub start_is : IsStart start
  pub node : node_of start ≡ n
  pub kinds : FitsChild start
  pub calm : told ≡ false → NeedsNoRequest start

-- The parcel is that with which a child of this number is done. Nothing of it rests on a request
-- unless the hand was told of one that the child heard.
pub record IsDoneBelow (start : List Entry) (parcel : Delivery) (child : ℕ) (told : Bool) :
    Type 0 where
  pub delivers : IsDelivery parcel
  pub entry : Entry
  pub shows : parcel.start ≡ entry ∷ start
  pub number : node_of parcel.start ≡ child
  pub small : IsSmall (plan_of start) → parcel.completion ≢ NoMemory
  pub calm : told ≡ false → NeedsNoRequest parcel.start
  pub saw : told ≡ false → parcel.saw ≡ false

-- The parcel is that of a child that runs with the arguments of this start: it lay in the child's
-- home, or was kept by the node.
pub record IsFromBelow (start : List Entry) (parcel : Delivery) (told : Bool) : Type 0 where
  pub delivers : IsDelivery parcel
  pub child : IsChildOf parcel.start start
  pub small : IsSmall (plan_of start) → parcel.completion ≢ NoMemory
  pub saw : told ≡ false → parcel.saw ≡ false

-- What a hand is told of the source that a node hears it is told of the one that the node's
-- children hear, where the node has none of its own; but nothing is heard below an `unstoppable`.
pub record PassesTold (tree : List TreeNode) (n : ℕ) (told told_children : Bool) : Type 0 where
  pub passes : has_source tree n ≡ false → is_unstoppable tree n ≡ false → told_children ≡ told
  pub shelters : has_source tree n ≡ false → is_unstoppable tree n ≡ true → told_children ≡ false
