-- What `poll` and `abandon` answer, and how a future is ended.
use Rattle.std.specs.Prelude.{◌≡◌, ℕ, Bool, true, List, Option, None, slice_set}
use Rattle.exec_value.specs.declared.outcome.Completion.{Completion}
use Rattle.life_rules.specs.declared.event.Name.{Name}
use Rattle.plan_shape.specs.Blueprint.{Blueprint}
use Rattle.table_steps.specs.declared.block.Block.{Block}
use Rattle.table_steps.specs.Views.{Board}
use Rattle.table_steps.specs.Seats.{Seated}
use Rattle.home_items.specs.declared.entry.Entry.{Entry}
use Rattle.home_items.specs.declared.item.Item.{Item}
use Rattle.node_walks.specs.declared.completing.Ended.{Ended}
use Rattle.node_walks.specs.Emptied.{WasNotReady}
use Rattle.spawn_future.specs.declared.future.Future.{Future}
use Rattle.spawn_future.specs.declared.polling.Polled.{Polled}
use Rattle.spawn_future.specs.declared.polling.Polled.TheVariants.{Ready, Waiting, Unknown}
use Rattle.spawn_future.specs.Keeping.{Ends}
use Rattle.spawn_future.specs.Slots.{is_waited, IsMarkedAt, WaitsAt, WaitsNowhere}

-- The future of the slot completed so, and was ended: the slot is free.
pub record EndsSlotAt (board : Board Blueprint) (t : ℕ) (b : Block) (old new : List (Option Future))
    (m m' : Seated Item Entry) (ended : Ended) : Type 0 where
  pub slots : new ≡ slice_set old t None
  pub ends : Ends board b m m' ended

-- Its root's word that was read didn't say that it is ready in the loop, and all is as it was.
pub record IsIncomplete (board : Board Blueprint) (b : Block) (old new : List (Option Future))
    (m m' : Seated Item Entry) : Type 0 where
  pub slots : new ≡ old
  pub read : WasNotReady board b m m'

module _ (board : Board Blueprint) (owner : Name) (old new : List (Option Future))
    (m m' : Seated Item Entry) where
  -- the future that the owner waits for completed so, and was ended
  pub record IsReadyWith (completion : Completion) (saw : Bool) : Type 0 where
    pub slot : ℕ
    pub future : Future
    pub waits : WaitsAt owner old slot future
    pub ended : Ended
    pub completion_is : ended.collected.completion ≡ completion
    pub saw_is : ended.collected.saw ≡ saw
    pub ends : EndsSlotAt board slot future.block old new m m' ended

  -- it wasn't complete
  pub record StillWaits : Type 0 where
    pub slot : ℕ
    pub future : Future
    pub waits : WaitsAt owner old slot future
    pub incomplete : IsIncomplete board future.block old new m m'

  -- the owner waits for none, and there was no step
  pub record IsUnknown : Type 0 where
    pub nowhere : WaitsNowhere owner old
    pub slots : new ≡ old
    pub same : m' ≡ m

  abbrev pub Polls : Polled → Type 0
  Polls (Ready completion saw) = IsReadyWith completion saw
  Polls Waiting = StillWaits
  Polls Unknown = IsUnknown

-- The future for which the owner waited is abandoned now.
pub record Abandons (owner : Name) (old new : List (Option Future)) : Type 0 where
  pub slot : ℕ
  pub marked : IsMarkedAt old new slot
  pub waited : is_waited owner marked.future ≡ true

-- The owner waits for none, and all is as it was.
pub record AbandonsNone (owner : Name) (old new : List (Option Future)) : Type 0 where
  pub nowhere : WaitsNowhere owner old
  pub slots : new ≡ old
