-- Where steps are made, what a step needs, and what it leaves.
use Rattle.std.specs.Prelude.{◌≡◌, Option, slice_get}
use Rattle.life_rules.specs.declared.event.Name.{Name}
use Rattle.plan_rules.specs.declared.node.Node.{Node}
use Rattle.plan_shape.specs.Blueprint.{Blueprint}
use Rattle.plan_kinds.specs.Runnable.{IsRunnable}
use Rattle.table_steps.specs.Views.{Board, IsHandOf, Stays}
use Rattle.table_steps.specs.Seats.{Seated}
use Rattle.home_items.specs.declared.entry.Entry.{Entry}
use Rattle.home_items.specs.declared.item.Item.{Item}
use Rattle.exec_recv.specs.declared.next.Next.{Next}
use Rattle.exec_recv.specs.Beginnings.{AllCanStart}
use Rattle.exec_recv.specs.Nexts.{IsStepped}
use Rattle.exec_recv.specs.Over.{IsOver}
use Rattle.exec_recv.specs.Seats.{HandSeat}
use Rattle.exec_recv.specs.Steppable.{CanStep}

-- the plan over which the table was opened
abbrev pub plan_at : Board Blueprint → Blueprint
plan_at board = board.frame.over.value

-- the node of this name; none where it is the receiver node
abbrev pub node_at : Board Blueprint → Name → Option Node
node_at board x = slice_get (plan_at board).nodes x.node

-- the table is over its plan, whose kinds match
pub record IsSite (board : Board Blueprint) : Type 0 where
  pub over : IsOver board (plan_at board)
  pub kinds : IsRunnable (plan_at board)

-- what the step of a node does, from the hand as it was to the hand afterwards
abbrev pub Does : Type 1
Does = Board Blueprint → Name → Next → HandSeat → HandSeat → Type 0

-- So it did from this view and these homes to those.
pub record Did (does : Does) (board : Board Blueprint) (x : Name) (next : Next)
    (m m' : Seated Item Entry) : Type 0 where
  pub old : HandSeat
  pub new : HandSeat
  pub old_is : old.me ≡ m
  pub new_is : new.me ≡ m'
  pub did : does board x next old new

-- The hand is one of the table's, makes no scan and runs no callback, and since it came to hold x
-- it has made no step on it, and has moved nothing of its home and of its children's. Each start
-- that it owes can begin.
pub record MayStep (board : Board Blueprint) (x : Name) (hand : HandSeat) : Type 0 where
  pub site : IsSite board
  pub of : IsHandOf board hand
  pub can : CanStep board x hand.me
  pub starts : AllCanStart board hand.me

-- What the step of x leaves: the hand holds the node that is next, or nothing in the place of x.
pub record Steps (board : Board Blueprint) (x : Name) (next : Next) (old new : HandSeat) :
    Type 0 where
  pub stays : Stays board old new
  pub stepped : IsStepped board x old.me new.me next
