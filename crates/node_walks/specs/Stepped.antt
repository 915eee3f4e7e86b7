-- A hand that has stepped a node, and gone on.
use Rattle.std.specs.Prelude.{List}
use Rattle.life_rules.specs.declared.event.Name.{Name}
use Rattle.plan_shape.specs.Blueprint.{Blueprint}
use Rattle.table_steps.specs.Views.{Board}
use Rattle.table_steps.specs.Seats.{Seated}
use Rattle.home_items.specs.declared.entry.Entry.{Entry}
use Rattle.home_items.specs.declared.item.Item.{Item}
use Rattle.exec_recv.specs.declared.next.Next.{Next}
use Rattle.exec_recv.specs.Asides.{KeepsAside}
use Rattle.exec_recv.specs.Nexts.{IsStepped}
use Rattle.exec_recv.specs.Sites.{Did, Does}
use Rattle.node_walks.specs.declared.mail.ReadyNode.{ReadyNode}
use Rattle.node_walks.specs.Resting.{CanGoOn}
use Rattle.node_walks.specs.Walks.{WalksOn}

-- The node x was stepped, which did what a step of its does, and the hand walked on. What the view
-- has beside nodes and starts is as that step left it, but for requests that the hand has seen and
-- the list of its steps.
pub record HasStepped (does : Does) (board : Board Blueprint) (x : Name)
    (m m' : Seated Item Entry) : Type 0 where
  pub next : Next
  pub between : Seated Item Entry
  pub did : Did does board x next m between
  pub stepped : IsStepped board x m between next
  pub after : KeepsAside between m'
  pub last : Seated Item Entry
  pub ready : List ReadyNode
  pub walks : WalksOn does board x next between last ready
  pub since : KeepsAside last m'

-- The node x was stepped, which did what a step of its does, and the hand walked on. It did nothing
-- else. The steps left these nodes ready, in this order.
pub record OnlySteps (does : Does) (board : Board Blueprint) (x : Name)
    (m m' : Seated Item Entry) (ready : List ReadyNode) : Type 0 where
  pub next : Next
  pub between : Seated Item Entry
  pub did : Did does board x next m between
  pub stepped : IsStepped board x m between next
  pub walks : WalksOn does board x next between m' ready

-- The hand could go on with x, and a step of x left it so.
pub record WasStepped (board : Board Blueprint) (x : Name) (next : Next) (m : Seated Item Entry)
    : Type 0 where
  pub before : Seated Item Entry
  pub can : CanGoOn board x before
  pub stepped : IsStepped board x before m next
