-- A hand that steps nodes one after the other, until it is at rest.
use Rattle.std.specs.Prelude.{◌≡◌, ⊤, List, [], ◌++◌, Option, Some, None}
use Rattle.life_rules.specs.declared.event.Name.{Name}
use Rattle.life_rules.specs.Views.{beside}
use Rattle.plan_shape.specs.Blueprint.{Blueprint}
use Rattle.table_steps.specs.Views.{Board, aim_at}
use Rattle.table_steps.specs.Begins.{Begins}
use Rattle.table_steps.specs.Seats.{Seated, view_of}
use Rattle.table_steps.specs.Owing.{Owes}
use Rattle.home_items.specs.contracts.item.ItemCargo.TheImpl.{ghosts}
use Rattle.home_items.specs.declared.entry.Entry.{Entry}
use Rattle.home_items.specs.declared.item.Item.{Item}
use Rattle.exec_recv.specs.declared.next.Next.{Next}
use Rattle.exec_recv.specs.declared.next.Next.TheVariants.{Go, Rest, InLoop, InPool, Parked}
use Rattle.exec_recv.specs.Nexts.{IsStepped}
use Rattle.exec_recv.specs.Sites.{Did, Does}
use Rattle.node_walks.specs.declared.mail.ReadyNode.{ReadyNode}
use Rattle.node_walks.specs.Mails.{ready_after}

-- The hand owed the start of y, and that node began.
pub record BeginsOwed (board : Board Blueprint) (y : Name) (m m' : Seated Item Entry) : Type 0 where
  pub owes : Owes (view_of m) y
  pub begins : Begins ghosts (aim_at board y) m m'

-- Nothing was done.
abbrev pub IsSame : Seated Item Entry → Seated Item Entry → Type 0
IsSame m m' = m' ≡ m

-- The hand owes no start, and nothing was done.
pub record OwesNone (m m' : Seated Item Entry) : Type 0 where
  pub none : (view_of m).owed ≡ []
  pub same : IsSame m m'

-- The hand goes on with a node whose start it owed, where it owed one, and else with none.
abbrev pub FindsOwed : Board Blueprint → Option Name → Seated Item Entry → Seated Item Entry →
    Type 0
FindsOwed board (Some y) m m' = BeginsOwed board y m m'
FindsOwed board None m m' = OwesNone m m'

-- It goes on with this node, as it is.
pub record GoesWith (y : Name) (going : Option Name) (m m' : Seated Item Entry) : Type 0 where
  pub going_is : going ≡ Some y
  pub same : IsSame m m'

-- After a step of x that ended so the hand goes on with the node that it names, of the same
-- operation, and else with one whose start it owed.
abbrev pub LeadsTo : Board Blueprint → Name → Next → Option Name → Seated Item Entry →
    Seated Item Entry → Type 0
LeadsTo board x (Go n) going m m' = GoesWith (beside x n) going m m'
LeadsTo board x Rest going m m' = FindsOwed board going m m'
LeadsTo board x InLoop going m m' = FindsOwed board going m m'
LeadsTo board x InPool going m m' = FindsOwed board going m m'
LeadsTo board x Parked going m m' = FindsOwed board going m m'

-- A step of x did what a step of its does, and left these nodes ready: x, or none. The hand goes on
-- with this node, or with none.
pub record StepsOnce (does : Does) (board : Board Blueprint) (x : Name) (going : Option Name)
    (m m' : Seated Item Entry) (ready : List ReadyNode) : Type 0 where
  pub next : Next
  pub between : Seated Item Entry
  pub did : Did does board x next m between
  pub stepped : IsStepped board x m between next
  pub follows : LeadsTo board x next going between m'
  pub ready_is : ready ≡ ready_after x next

-- The hand went on with this node, where there is one, and from each step to the next, until it had
-- none to go on with. It did nothing else. Its steps left these nodes ready, in this order.
pub data Walks (does : Does) (board : Board Blueprint) :
    Option Name → Seated Item Entry → Seated Item Entry → List ReadyNode → Type 0 where
  Ends : (m : Seated Item Entry) → Walks does board None m m []
  Steps : (x : Name) (going : Option Name) (m between m' : Seated Item Entry)
      (first others : List ReadyNode) → StepsOnce does board x going m between first →
      Walks does board going between m' others → Walks does board (Some x) m m' (first ++ others)

-- So it went on after a step of x that ended so. That step and these left these nodes ready.
pub record WalksOn (does : Does) (board : Board Blueprint) (x : Name) (next : Next)
    (m m' : Seated Item Entry) (ready : List ReadyNode) : Type 0 where
  pub going : Option Name
  pub found : Seated Item Entry
  pub follows : LeadsTo board x next going m found
  pub others : List ReadyNode
  pub walks : Walks does board going found m' others
  pub ready_is : ready ≡ ready_after x next ++ others

-- Of a step nothing is said but what each step leaves.
abbrev pub Anything : Does
Anything = λ board x next old new. ⊤

-- So it went on, whatever its steps did, and whichever nodes they left ready.
abbrev pub WalksAnyhow : Board Blueprint → Name → Next → Seated Item Entry → Seated Item Entry →
    Type 0
WalksAnyhow board x next m m' =
    (ready : List ReadyNode) × WalksOn Anything board x next m m' ready
