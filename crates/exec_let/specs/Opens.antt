-- What a let that has begun finds in the homes of its child and its bodies.
use Rattle.std.specs.Prelude.{◌≡◌, ℕ, All, Contains, List, Option, Some, None, IfSome}
use Rattle.plan_kinds.specs.Runs.{bodies_of}
use Rattle.plan_rules.specs.declared.node.Node.{Node}
use Rattle.plan_shape.specs.Blueprint.{Blueprint}
use Rattle.table_steps.specs.Views.{Board}
use Rattle.table_steps.specs.Seats.{Seated}
use Rattle.home_items.specs.declared.entry.Entry.{Entry}
use Rattle.home_items.specs.declared.item.Item.{Item}
use Rattle.home_items.specs.Contents.{Done}
use Rattle.home_items.specs.Fits.{IsItemOf}
use Rattle.home_items.specs.Items.{parcel_in, saw_in}
use Rattle.home_items.specs.Parcels.{Delivery}
use Rattle.exec_recv.specs.Seats.{HandSeat}
use Rattle.exec_recv.specs.Sites.{node_at}
use Rattle.start_laws.specs.Holding.{IsDoneBelow}
use Rattle.step_parts.specs.Heard.{has_heard, MaySee}
use Rattle.step_parts.specs.Midway.{Ready}
use Rattle.step_parts.specs.Several.{Empties}
use Rattle.step_parts.specs.Stepping.{Stepping}
use Rattle.step_parts.specs.Takes.{HasParcel, IsFoundBelow, IsOpen, IsOpenWith, IsTaken}
use Rattle.exec_let.specs.Kinds.{IsLet, let_child}

-- the parcel in the child's home, and else the one that the let kept
abbrev pub newest_in : Option Item → Item → Option Delivery
newest_in (Some (Done parcel)) own = Some parcel
newest_in below own = parcel_in own

module _ (board : Board Blueprint) (t : Stepping) where
  -- The step of this let goes on: what lies in its home is its own.
  pub record MayOpen (node : Node) (hand : HandSeat) : Type 0 where
    pub lies : IsOpen board t hand
    pub of : IsItemOf lies.inside t.name.node
    pub saw : MaySee board t.name (saw_in lies.inside) hand.me
    pub node_is : node_at board t.name ≡ Some node
    pub is_let : IsLet node

  -- The parcel lay in the home of one of these children.
  pub record IsOfBody (bodies : List ℕ) (kid : ℕ → Option Item) (m : Seated Item Entry)
      (parcel : Delivery) : Type 0 where
    pub body : ℕ
    pub among : Contains bodies body
    pub found : IsFoundBelow board t body m parcel
    pub lay : kid body ≡ Some (Done parcel)

  -- The hand took what lay in the homes of these children: a parcel of one of them, or none.
  pub record TakesBodies (bodies : List ℕ) (answer : Option Delivery) (old new : HandSeat) :
      Type 0 where
    pub empties : Empties board t bodies old new
    pub found : (inside : Item) (kid : ℕ → Option Item) → IsOpenWith board t inside kid old →
        IfSome answer (IsOfBody bodies kid new.me)
    pub nothing : (inside : Item) (kid : ℕ → Option Item) → IsOpenWith board t inside kid old →
        answer ≡ None → All (λ n. kid n ≡ None) bodies

  -- A body of the let has completed with this parcel.
  pub record HasBody (node : Node) (m : Seated Item Entry) (parcel : Delivery) : Type 0 where
    pub ready : Ready board t.name t.start 1 m
    pub body : ℕ
    pub among : Contains (bodies_of node) body
    pub done : IsDoneBelow t.start parcel body (has_heard board t.name m)

  -- The let has the parcel of its child at hand, as it lay in the child's home, or as the let kept
  -- it; and that of a body, as it lay in the body's. The homes of its children are empty.
  pub record Opens (node : Node) (below over : Option Delivery) (old new : HandSeat) :
      Type 0 where
    pub taken : IsTaken board t new
    pub child : IfSome below (HasParcel board t new.me)
    pub body : IfSome over (HasBody node new.me)
    pub child_is : (inside : Item) (kid : ℕ → Option Item) → IsOpenWith board t inside kid old →
        below ≡ newest_in (kid (let_child node)) inside
    pub body_is : (inside : Item) (kid : ℕ → Option Item) → IsOpenWith board t inside kid old →
        IfSome over (IsOfBody (bodies_of node) kid new.me)
    pub none_is : (inside : Item) (kid : ℕ → Option Item) → IsOpenWith board t inside kid old →
        over ≡ None → All (λ n. kid n ≡ None) (bodies_of node)
