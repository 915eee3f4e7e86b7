-- How a step starts a child of its node, which the hand goes on with.
use Rattle.std.specs.Prelude.{◌≡◌, ◌⊎◌, ℕ, ◌≤◌, Bool, true, false, List, [], ◌∷◌, Contains, Some, None, slice_get}
use Rattle.exec_value.specs.declared.data.Datum.{Datum}
use Rattle.exec_value.specs.declared.data.Datum.TheVariants.{Int}
use Rattle.exec_value.specs.Place.{AreInPlace}
use Rattle.life_rules.specs.Views.{beside}
use Rattle.node_tree.specs.Tree.{is_child}
use Rattle.plan_kinds.specs.Built.{IsNoPart}
use Rattle.plan_shape.specs.Blueprint.{Blueprint}
use Rattle.op_table.specs.OnlyChild.{BeginsChild}
use Rattle.table_steps.specs.Readings.{KnowsIdle, IsBegunAs}
use Rattle.table_steps.specs.Slots.{has_seen}
use Rattle.table_steps.specs.Swaps.{IsSwapped}
use Rattle.table_steps.specs.Views.{Board, knows}
use Rattle.table_steps.specs.Seats.{Seated}
use Rattle.home_items.specs.contracts.item.ItemCargo.TheImpl.{ghosts}
use Rattle.home_items.specs.declared.entry.Entry.{Entry}
use Rattle.home_items.specs.declared.item.Item.{Item}
use Rattle.home_items.specs.Below.{run_below, asked_below}
use Rattle.home_items.specs.Bounds.{least_of}
use Rattle.home_items.specs.Contents.{Start, Rest}
use Rattle.home_items.specs.Entries.{carried_of, plan_node, plan_of, start_with}
use Rattle.home_items.specs.Starts.{NeedsNoRequest, BeginsBelow}
use Rattle.exec_recv.specs.declared.next.Next.{Next}
use Rattle.exec_recv.specs.declared.next.Next.TheVariants.{Go}
use Rattle.exec_recv.specs.Seats.{HandSeat}
use Rattle.exec_recv.specs.Sites.{Steps}
use Rattle.step_parts.specs.declared.copying.Carried.{Carried}
use Rattle.step_parts.specs.declared.copying.Carried.TheVariants.{Int as Number, Other}
use Rattle.step_parts.specs.Leaves.{LeavesAt}
use Rattle.life_rules.specs.declared.event.Resting.TheVariants.{Loop as InLoop}
use Rattle.step_parts.specs.Midway.{Ready}
use Rattle.step_parts.specs.Stepping.{Stepping}
use Rattle.step_parts.specs.Takes.{IsTaken, Keeps}
use Rattle.step_parts.specs.Wants.{EndsWanting}

-- the data of which it is a copy
abbrev pub data_in : Carried → List Datum
data_in (Number n) = Int n ∷ []
data_in (Other values) = values

-- the child runs with the arguments of the node that has this start
abbrev pub RunsBelow : List Entry → ℕ → Type 0
RunsBelow [] n = ⊥
RunsBelow (p ∷ above) n = Contains (run_below (plan_node p) p) n

-- what such a child has of `asked`
abbrev pub asked_for_child : List Entry → Bool
asked_for_child [] = false
asked_for_child (p ∷ above) = asked_below (plan_node p) p.asked

module _ (board : Board Blueprint) (t : Stepping) (n : ℕ) where
  -- The step has come so far that the node can await its child n alone, which begins with these
  -- data. The child is no part of a bulk, and where the hand has seen no request on the source that
  -- it hears, its start rests on none. The hand knows that it hasn't begun.
  pub record MayBegin (args : List Datum) (asked : Bool) (hand : HandSeat) : Type 0 where
    pub taken : IsTaken board t hand
    pub few : least_of (Rest t.start None) ≤ 1
    pub child : is_child board.frame.tree t.name.node n ≡ true
    pub plain : IsNoPart (slice_get (plan_of t.start).nodes n)
    pub begins : BeginsBelow (start_with n args asked t.start)
    pub calmly : has_seen board.frame.tree (knows hand) (beside t.name n) ≡ false →
        NeedsNoRequest (start_with n args asked t.start)
    pub idle : KnowsIdle t.name n hand.me

  -- The node awaits the child, which began with these data.
  pub record AwaitsChild (args : List Datum) (asked : Bool) (next : Next)
      (old new : HandSeat) : Type 0 where
    pub steps : Steps board t.name next t.from new
    pub next_is : next ≡ Go n
    pub begins : BeginsChild ghosts board.frame t.name n (Start (start_with n args asked t.start))
        old.me new.me

  -- The node was left with its start in its home, awaiting the child, which began with these data.
  pub record Begins (args : List Datum) (asked : Bool) (next : Next)
      (old new : HandSeat) : Type 0 where
    pub steps : Steps board t.name next t.from new
    pub next_is : next ≡ Go n
    pub full : Seated Item Entry
    pub was : Item
    pub put : IsSwapped board.frame t.name (Some (Rest t.start None)) (Some was) old.me full
    pub begins : BeginsChild ghosts board.frame t.name n (Start (start_with n args asked t.start))
        full new.me

  -- The step has come so far that the node can run its child n with its own arguments, or be left
  -- with its start alone. The child has this of `asked`.
  pub record MayRun (asked : Bool) (hand : HandSeat) : Type 0 where
    pub taken : IsTaken board t hand
    pub few : Ready board t.name t.start (least_of (Rest t.start None)) hand.me
    pub least : least_of (Rest t.start None) ≤ 1
    pub runs : RunsBelow t.start n
    pub asked_is : asked ≡ asked_for_child t.start

  -- the child began with the node's arguments
  abbrev pub HasStarted : Next → HandSeat → HandSeat → Type 0
  HasStarted next old new =
      Begins (carried_of t.start) (asked_for_child t.start) next old new

  -- there was no memory for the child's arguments, which don't stand in place
  pub record HasWanted (next : Next) (old new : HandSeat) : Type 0 where
    pub want : AreInPlace (carried_of t.start) → ⊥
    pub ends : EndsWanting board t next old new

  abbrev pub StartsChild : Next → HandSeat → HandSeat → Type 0
  StartsChild next old new = HasStarted next old new ⊎ HasWanted next old new

  -- the same of the receiver node, which is left with its start alone
  pub record HasLeftTop (next : Next) (old new : HandSeat) : Type 0 where
    pub want : AreInPlace (carried_of t.start) → ⊥
    pub looked : HandSeat
    pub keeps : Keeps board t old looked
    pub left : LeavesAt board t None InLoop next looked new

  abbrev pub StartsTop : Next → HandSeat → HandSeat → Type 0
  StartsTop next old new = HasStarted next old new ⊎ HasLeftTop next old new

  -- The child's word was read: where it said that the child has begun, the node was left with its
  -- start alone, and else the child was started.
  pub record StartsAgain (next : Next) (old new : HandSeat) : Type 0 where
    pub begun : Bool
    pub middle : HandSeat
    pub read : IsBegunAs board.frame (beside t.name n) begun old.me middle.me
    pub has : begun ≡ true → LeavesAt board t None InLoop next middle new
    pub has_not : begun ≡ false → StartsChild next middle new
