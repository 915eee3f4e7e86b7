-- How a step awaits several children of its node.
use Rattle.std.specs.Prelude.{◌≢◌, ℕ, ◌≤◌, List, length, Option, Some}
use Rattle.exec_value.specs.declared.outcome.Completion.TheVariants.{NoMemory}
use Rattle.life_rules.specs.declared.words.ControlWord.TheVariants.{Busy}
use Rattle.plan_kinds.specs.Small.{IsSmall}
use Rattle.plan_shape.specs.Blueprint.{Blueprint}
use Rattle.table_steps.specs.Awaits.{AwaitsAt}
use Rattle.table_steps.specs.Seats.{Seated}
use Rattle.table_steps.specs.Lefts.{LeavesControl}
use Rattle.table_steps.specs.Swaps.{IsSwapped}
use Rattle.table_steps.specs.Views.{Board, Stays, aim_at}
use Rattle.home_items.specs.contracts.item.ItemCargo.TheImpl.{ghosts}
use Rattle.home_items.specs.declared.entry.Entry.{Entry}
use Rattle.home_items.specs.declared.item.Item.{Item}
use Rattle.home_items.specs.Bounds.{least_of}
use Rattle.home_items.specs.Contents.{Rest}
use Rattle.home_items.specs.Entries.{plan_of}
use Rattle.home_items.specs.Fits.{KeepsChild}
use Rattle.home_items.specs.Items.{completion_in, lot_of, saw_in}
use Rattle.home_items.specs.Parcels.{Delivery}
use Rattle.exec_recv.specs.Areas.{MovesWithin}
use Rattle.exec_recv.specs.Asides.{KeepsAside}
use Rattle.exec_recv.specs.Nexts.{LetsGo, OwesNewBelow}
use Rattle.exec_recv.specs.Seats.{HandSeat}
use Rattle.step_parts.specs.Heard.{MaySee}
use Rattle.step_parts.specs.Kids.{AreKids, KnowsAllIdle}
use Rattle.step_parts.specs.Starting.{IsStarting}
use Rattle.step_parts.specs.Stepping.{Stepping}
use Rattle.step_parts.specs.Takes.{IsTaken}

module _ (board : Board Blueprint) (t : Stepping) (kept : Option Delivery) (children : List ℕ) where
  -- The step has come so far that the node, with this parcel of its child in its home, can await
  -- these children.
  pub record MayAwaitMany (hand : HandSeat) : Type 0 where
    pub taken : IsTaken board t hand
    pub child : KeepsChild (Rest t.start kept)
    pub saw : MaySee board t.name (saw_in (Rest t.start kept)) hand.me
    pub small : IsSmall (plan_of t.start) → completion_in (Rest t.start kept) ≢ Some NoMemory
    pub least : least_of (Rest t.start kept) ≤ length children
    pub some : 1 ≤ length children
    pub kids : AreKids board t.name children
    pub idle : KnowsAllIdle t.name children (length children) hand.me

  -- It was left so, awaiting them, and they are owed. What the hand has beside the node is as when
  -- the step began, but that it owes them.
  pub record AwaitsMany (old new : HandSeat) : Type 0 where
    pub stays : Stays board t.from new
    pub full : Seated Item Entry
    pub was : Item
    pub put : IsSwapped board.frame t.name (Some (Rest t.start kept)) (Some was) old.me full
    pub awaits : LeavesControl (aim_at board t.name) (Busy 0) (Busy (length children))
        (AwaitsAt ghosts (aim_at board t.name) children) full new.me
    pub aside : KeepsAside t.from.me new.me
    pub moves : MovesWithin board t.name t.from.me new.me
    pub lets_go : LetsGo board t.name t.from.me new.me
    pub owes : OwesNewBelow board t.name t.from.me new.me
    pub starting : IsStarting board t.name t.start (lot_of (Rest t.start kept)) children
        (length children) new.me
