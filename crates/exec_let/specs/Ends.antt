-- From where in its step a let may complete, or begin a body.
use Rattle.std.specs.Prelude.{◌≡◌, ℕ, Some}
use Rattle.plan_rules.specs.declared.node.Node.{Node}
use Rattle.plan_shape.specs.Blueprint.{Blueprint}
use Rattle.table_steps.specs.Views.{Board}
use Rattle.home_items.specs.Parcels.{Delivery}
use Rattle.start_laws.specs.Lets.{channel_of}
use Rattle.exec_recv.specs.Seats.{HandSeat}
use Rattle.exec_recv.specs.Sites.{node_at}
use Rattle.step_parts.specs.Stepping.{Stepping}
use Rattle.step_parts.specs.Takes.{HasParcel, IsTaken}
use Rattle.exec_let.specs.declared.picking.Picked.TheVariants.{Body}
use Rattle.exec_let.specs.Kinds.{IsLet}
use Rattle.exec_let.specs.Opens.{HasBody}
use Rattle.exec_let.specs.Picks.{picked_for}

module _ (board : Board Blueprint) (t : Stepping) where
  -- The step of this let goes on, whose child has completed with this parcel.
  pub record MayGoOn (node : Node) (parcel : Delivery) (hand : HandSeat) : Type 0 where
    pub taken : IsTaken board t hand
    pub node_is : node_at board t.name ≡ Some node
    pub is_let : IsLet node
    pub has : HasParcel board t hand.me parcel

  -- and its pick names this body
  pub record MayBeginBody (node : Node) (parcel : Delivery) (body : ℕ) (hand : HandSeat) :
      Type 0 where
    pub may : MayGoOn node parcel hand
    pub picks : picked_for node (channel_of node parcel.completion) ≡ Body body

  -- a body of the let has completed with this parcel
  pub record MayEndAsBody (parcel : Delivery) (hand : HandSeat) : Type 0 where
    pub taken : IsTaken board t hand
    pub node : Node
    pub node_is : node_at board t.name ≡ Some node
    pub is_let : IsLet node
    pub has : HasBody board t node hand.me parcel
