-- How a node ends its step for want of memory.
use Rattle.std.specs.Prelude.{◌≡◌, Bool, true, false, List, [], ◌∷◌, None}
use Rattle.exec_value.specs.declared.data.Datum.{Datum}
use Rattle.exec_value.specs.declared.data.Datum.TheVariants.{Text}
use Rattle.exec_value.specs.declared.outcome.Completion.TheVariants.{NoMemory}
use Rattle.life_rules.specs.declared.event.Resting.TheVariants.{Loop as InLoop}
use Rattle.node_tree.specs.Tree.{is_root}
use Rattle.plan_kinds.specs.Small.{IsSmall}
use Rattle.plan_shape.specs.Blueprint.{Blueprint}
use Rattle.table_steps.specs.Views.{Board}
use Rattle.home_items.specs.Bounds.{least_of}
use Rattle.home_items.specs.Contents.{Rest}
use Rattle.home_items.specs.Entries.{carried_of, plan_of}
use Rattle.exec_recv.specs.declared.next.Next.{Next}
use Rattle.exec_recv.specs.Seats.{HandSeat}
use Rattle.step_parts.specs.Completes.{Completes}
use Rattle.step_parts.specs.Leaves.{LeavesAt}
use Rattle.step_parts.specs.Midway.{Ready}
use Rattle.step_parts.specs.Stepping.{Stepping}
use Rattle.step_parts.specs.Takes.{IsTaken, Keeps}

-- the data are one text: of those with which the nodes of a small plan run, only such may not stand
-- in place
abbrev pub is_text_alone : List Datum → Bool
is_text_alone (Text bytes ∷ []) = true
is_text_alone values = false

module _ (board : Board Blueprint) (t : Stepping) where
  -- The step has come so far that the node, which isn't the receiver node, can be left with its
  -- start alone, and the plan is small only where its arguments are one text.
  pub record MayWant (hand : HandSeat) : Type 0 where
    pub taken : IsTaken board t hand
    pub inner : is_root board.frame.tree t.name.node ≡ false
    pub few : Ready board t.name t.start (least_of (Rest t.start None)) hand.me
    pub small : IsSmall (plan_of t.start) → is_text_alone (carried_of t.start) ≡ true

  -- Its arguments were looked at, and then it completed with want of memory; or, where they are one
  -- text, it was left in the loop with its start alone.
  pub record EndsWanting (next : Next) (old new : HandSeat) : Type 0 where
    pub looked : HandSeat
    pub keeps : Keeps board t old looked
    pub later : is_text_alone (carried_of t.start) ≡ true →
        LeavesAt board t None InLoop next looked new
    pub now : is_text_alone (carried_of t.start) ≡ false →
        Completes board t NoMemory false next looked new
