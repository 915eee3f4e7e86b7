-- From where in its step a node may hop, complete or start its child.
use Rattle.std.specs.Prelude.{◌≡◌, ◌||◌, ℕ, Bool, true, false, Option, Some, None}
use Rattle.node_tree.specs.declared.context.Context.{Context}
use Rattle.node_tree.specs.Tree.{is_root}
use Rattle.plan_rules.specs.declared.node.Node.TheVariants.{ContinuesOn}
use Rattle.plan_shape.specs.Blueprint.{Blueprint}
use Rattle.table_steps.specs.Views.{Board}
use Rattle.home_items.specs.declared.item.Item.{Item}
use Rattle.home_items.specs.Entries.{asked_of}
use Rattle.home_items.specs.Fits.{IsItemOf}
use Rattle.home_items.specs.Items.{saw_in}
use Rattle.home_items.specs.Parcels.{Delivery}
use Rattle.exec_recv.specs.Seats.{HandSeat}
use Rattle.exec_recv.specs.Sites.{node_at}
use Rattle.step_parts.specs.Completes.{MayEnd, MayStop}
use Rattle.step_parts.specs.Heard.{MaySee}
use Rattle.step_parts.specs.Leaves.{MayLeave}
use Rattle.step_parts.specs.Starts.{MayRun}
use Rattle.step_parts.specs.Stepping.{Stepping}
use Rattle.step_parts.specs.Takes.{IsOpenWith, IsTaken}
use Rattle.exec_hop.specs.Kinds.{IsHop}

module _ (board : Board Blueprint) (t : Stepping) where
  -- The node may be left with this parcel of its child; and where a request was made before the
  -- operation was started, it may complete stopped.
  pub record MayHop (kept : Option Delivery) (hand : HandSeat) : Type 0 where
    pub leaves : MayLeave board t kept hand
    pub stops : asked_of t.start ≡ true → MayStop board t false hand

  -- The step of a `schedule` that was taken in its context goes on.
  pub record MayFinish (hand : HandSeat) : Type 0 where
    pub taken : IsTaken board t hand
    pub kind : IsHop (node_at board t.name)

  -- the node may complete as its child did
  abbrev pub MayPass : Delivery → HandSeat → Type 0
  MayPass parcel hand = MayEnd board t parcel.completion parcel.saw hand

  -- where a request was found, the node may complete stopped, and else as its child did
  pub record MayLand (parcel : Delivery) (saw : Bool) (hand : HandSeat) : Type 0 where
    pub stops : (asked_of t.start || saw) ≡ true → MayStop board t saw hand
    pub passes : (asked_of t.start || saw) ≡ false → MayPass parcel hand

  -- where a request was found, the node may complete stopped, and else its child may be started
  pub record MayStart (child : ℕ) (saw : Bool) (hand : HandSeat) : Type 0 where
    pub stops : (asked_of t.start || saw) ≡ true → MayStop board t saw hand
    pub inner : is_root board.frame.tree t.name.node ≡ false
    pub runs : MayRun board t child (asked_of t.start) hand

  -- The step of a `continues_on` that had begun goes on: its child hasn't completed since it
  -- rested. This lies in its home: an item of the node, which saw no request that the hand hasn't
  -- heard of. The homes of its children are empty.
  pub record MayGoOn (child : ℕ) (hand : HandSeat) : Type 0 where
    pub on : Context
    pub node : node_at board t.name ≡ Some (ContinuesOn child on)
    pub inside : Item
    pub is : IsOpenWith board t inside (λ _. None) hand
    pub of : IsItemOf inside t.name.node
    pub saw : MaySee board t.name (saw_in inside) hand.me
