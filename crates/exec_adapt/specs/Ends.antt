-- From where in its step a node may go on.
use Rattle.std.specs.Prelude.{◌≡◌, ◌||◌, ℕ, Bool, Option, Some, None}
use Rattle.plan_kinds.specs.Small.{IsSmall}
use Rattle.plan_rules.specs.declared.node.Node.{Node}
use Rattle.plan_rules.specs.declared.node.Node.TheVariants.{ReadEnv}
use Rattle.plan_rules.specs.declared.node.Query.{Query}
use Rattle.plan_rules.specs.declared.node.Query.TheVariants.{Stop}
use Rattle.plan_shape.specs.Blueprint.{Blueprint}
use Rattle.table_steps.specs.Views.{Board}
use Rattle.home_items.specs.declared.item.Item.{Item}
use Rattle.home_items.specs.Entries.{asked_of, child_of, plan_of}
use Rattle.home_items.specs.Fits.{IsItemOf}
use Rattle.home_items.specs.Items.{parcel_in, saw_in}
use Rattle.home_items.specs.Parcels.{Delivery}
use Rattle.exec_recv.specs.Seats.{HandSeat}
use Rattle.exec_recv.specs.Sites.{node_at}
use Rattle.step_parts.specs.Heard.{MaySee}
use Rattle.step_parts.specs.Stepping.{Stepping}
use Rattle.step_parts.specs.Takes.{HasParcel, IsOpenWith, IsTaken}
use Rattle.exec_adapt.specs.Kinds.{adapted, IsAdaptor, IsPlainFactory}

module _ (board : Board Blueprint) (t : Stepping) where
  -- The step of an adaptor goes on, whose child has completed with this parcel.
  pub record MayPass (node : Node) (parcel : Delivery) (hand : HandSeat) : Type 0 where
    pub taken : IsTaken board t hand
    pub node_is : node_at board t.name ≡ Some node
    pub adaptor : IsAdaptor node
    pub has : HasParcel board t hand.me parcel

  -- The step of a node goes on that had begun. This lies in its home and in those of its children.
  -- It is an item of the node, which saw no request that the hand hasn't heard of.
  pub record HasRested (inside : Item) (kid : ℕ → Option Item) (hand : HandSeat) : Type 0 where
    pub is : IsOpenWith board t inside kid hand
    pub of : IsItemOf inside t.name.node
    pub saw : MaySee board t.name (saw_in inside) hand.me

  -- so that of an adaptor does
  pub record MayGoOn (node : Node) (child : ℕ) (hand : HandSeat) : Type 0 where
    pub inside : Item
    pub kid : ℕ → Option Item
    pub rested : HasRested inside kid hand
    pub node_is : node_at board t.name ≡ Some node
    pub child_is : adapted node ≡ Some child

  -- whose child hasn't completed since it rested
  pub record MayGoOnAgain (node : Node) (child : ℕ) (hand : HandSeat) : Type 0 where
    pub inside : Item
    pub rested : HasRested inside (λ _. None) hand
    pub node_is : node_at board t.name ≡ Some node
    pub child_is : adapted node ≡ Some child

  -- and that of the receiver node, whose start names this child. In a small plan that has completed
  -- or the node keeps its parcel.
  pub record MayReceive (child : ℕ) (hand : HandSeat) : Type 0 where
    pub inside : Item
    pub kid : ℕ → Option Item
    pub rested : HasRested inside kid hand
    pub root : node_at board t.name ≡ None
    pub names : child_of t.start ≡ Some child
    pub large : kid child ≡ None → parcel_in inside ≡ None → ¬ IsSmall (plan_of t.start)

  -- whose child hasn't completed since it rested
  pub record MayRestAgain (child : ℕ) (hand : HandSeat) : Type 0 where
    pub inside : Item
    pub rested : HasRested inside (λ _. None) hand
    pub root : node_at board t.name ≡ None
    pub names : child_of t.start ≡ Some child
    pub large : parcel_in inside ≡ None → ¬ IsSmall (plan_of t.start)

  -- whose child hasn't completed, and which keeps nothing
  pub record MayReadTop (child : ℕ) (hand : HandSeat) : Type 0 where
    pub taken : IsTaken board t hand
    pub root : node_at board t.name ≡ None
    pub names : child_of t.start ≡ Some child
    pub large : ¬ IsSmall (plan_of t.start)

  -- The step of a node goes on that answers this query.
  pub record MayAnswer (node : Node) (query : Query) (hand : HandSeat) : Type 0 where
    pub taken : IsTaken board t hand
    pub node_is : node_at board t.name ≡ Some node
    pub query_is : node ≡ ReadEnv query

  -- The step of a factory goes on. What it found of a stop is what its node saw, or what was asked
  -- before the operation was started.
  pub record MayMake (node : Node) (stop saw : Bool) (hand : HandSeat) : Type 0 where
    pub taken : IsTaken board t hand
    pub node_is : node_at board t.name ≡ Some node
    pub made : IsPlainFactory node
    pub sees : MaySee board t.name saw hand.me
    pub stop_is : node ≡ ReadEnv Stop → stop ≡ (asked_of t.start || saw)
