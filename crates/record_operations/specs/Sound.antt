-- What each run over a table keeps.
use Rattle.std.specs.Prelude.{◌≡◌, ℕ, ◌+◌, ◌<◌, ◌≤◌, ◌^◌, Bool, true, List, [], ◌∷◌, length, Option, Some, None, slice_index_or}
use Rattle.deck_relay.specs.declared.desk.Desk.{Desk}
use Rattle.deck_relay.specs.Desks.{deck_in, post_in}
use Rattle.exec_value.specs.declared.data.Datum.{Datum}
use Rattle.life_rules.specs.declared.event.SourceRef.TheVariants.{Scope}
use Rattle.loop_queue.specs.declared.post.LoopPost.{LoopPost}
use Rattle.plan_kinds.specs.Runnable.{IsRunnable}
use Rattle.plan_shape.specs.Blueprint.{Blueprint}
use Rattle.table_rules.specs.declared.view.Rooted.{Rooted}
use Rattle.table_rules.specs.Named.{find_by}
use Rattle.table_rules.specs.ShownViews.{has_source_ref}
use Rattle.table_steps.specs.Seats.{Seated}
use Rattle.table_steps.specs.ScopeEntries.{MayEnter}
use Rattle.table_steps.specs.Views.{Board, knows}
use Rattle.home_items.specs.declared.entry.Entry.{Entry}
use Rattle.home_items.specs.declared.item.Item.{Item}
use Rattle.home_items.specs.Entries.{record_start}
use Rattle.exec_recv.specs.Asides.{Aside, aside_of}
use Rattle.exec_recv.specs.Over.{IsOver}
use Rattle.run_loop.specs.Loops.{IsReady, deck_of}
use Rattle.spawn_future.specs.declared.future.Future.{Future}
use Rattle.spawn_future.specs.Counts.{IsOfNoFuture}
use Rattle.spawn_future.specs.Keeping.{AreKept}
use Rattle.spawn_future.specs.Slots.{kept_in}
use Rattle.record_operations.specs.declared.tickets.Operation.{Operation}
use Rattle.record_operations.specs.Owns.{KeepsBoth}
use Rattle.record_operations.specs.Runs.{Run, begun_by, root_of, taken}
use Rattle.line_rules.specs.PlanTerms.{has_ahead}
use Rattle.record_operations.specs.Worked.{HasWorked}

-- The ticket has this operation.
abbrev pub Has : List (Option Operation) → ℕ → Operation → Type 0
Has operations t o = slice_index_or operations t None ≡ Some o

-- The operation is in a block of the table, and its root was begun with a start for a record.
pub record IsOfRecord (board : Board Blueprint) (plan : Blueprint) (noted : List (Rooted Entry))
    (o : Operation) : Type 0 where
  pub within : o.block.index < board.frame.layout.blocks
  pub number : ℕ
  pub datum : Datum
  pub asked : Bool
  pub start : find_by (λ (e : Rooted Entry). e.name) noted (root_of board o)
      ≡ Some (record
      { name = root_of board o; start = record_start plan (datum ∷ []) number asked })

-- The hand has an association for each operation, and claimed a block for each that it didn't give
-- back; and so for each of so many futures. It noted the start of each operation, and no two of
-- them are in one block.
pub record AreListed (board : Board Blueprint) (plan : Blueprint) (aside : Aside)
    (operations : List (Option Operation)) (kept : ℕ) : Type 0 where
  pub made : aside.made ≡ taken operations + kept
  pub claimed : aside.claimed ≡ aside.released + taken operations + kept
  pub each : (t : ℕ) (o : Operation) → Has operations t o → IsOfRecord board plan aside.noted o
  pub apart : (t u : ℕ) (o p : Operation) → Has operations t o → Has operations u p
      → root_of board o ≡ root_of board p → t ≡ u

-- The hand keeps the futures, and none of them is in the block of an operation.
pub record AreSpawned (board : Board Blueprint) (operations : List (Option Operation))
    (futures : List (Option Future)) (m : Seated Item Entry) : Type 0 where
  pub kept : AreKept board futures m
  pub apart : (t : ℕ) (o : Operation) → Has operations t o
      → IsOfNoFuture board futures (root_of board o)

-- A stop that was requested of the run was requested of the scope; and the hand made none of
-- another's.
pub record IsRequestKept (run : Run) : Type 0 where
  pub seen : run.requested ≡ true → has_source_ref (knows run.looped.hand).seen Scope ≡ true
  pub made : (knows run.looped.hand).requested ≡ true → run.requested ≡ true

-- The table is the one that was told. It is over the plan that is stepped, whose kinds match, and
-- its scope is of the plan's kind.
pub record HasTable (on : Board Blueprint → Type 0) (run : Run) (stepped : Blueprint) : Type 0 where
  pub is_on : on run.board
  pub over : IsOver run.board run.plan
  pub kinds : IsRunnable run.plan
  pub stepped_is : stepped ≡ run.plan
  pub scope : run.board.frame.kind ≡ run.plan.settings.scope

-- The ticket that is next to be taken is there, and there are few.
pub record HasTickets (count next : ℕ) : Type 0 where
  pub within : next < count
  pub few : count ≤ 2 ^ 16

-- The hand had claimed so many blocks before the run.
pub record IsSound (on : Board Blueprint → Type 0) (before : ℕ) (run : Run) (stepped : Blueprint)
    (next : ℕ) : Type 0 where
  pub table : HasTable on run stepped
  pub tickets : HasTickets (length run.operations) next
  pub ready : IsReady run.board run.looped
  pub settled : MayEnter (knows run.looped.hand)
  pub listed : AreListed run.board run.plan (aside_of (knows run.looped.hand)) run.operations
      (kept_in run.futures)
  pub worked : HasWorked run.plan (before + begun_by run) (knows run.looped.hand).claimed
  pub spawned : AreSpawned run.board run.operations run.futures run.looped.hand.me
  pub asked : IsRequestKept run

-- And it has the desk with which it was opened, and knows whether its plan has an `ahead`.
pub record KeepsItsDesk (on : Board Blueprint → Type 0) (before : ℕ) (desk : Option Desk)
    (run : Run) (stepped : Blueprint) (next : ℕ) (spawns : Bool) (post : Option LoopPost)
    : Type 0 where
  pub sound : IsSound on before run stepped next
  pub spawns_is : spawns ≡ has_ahead run.plan
  pub both : KeepsBoth (deck_in desk) (post_in desk) (deck_of run.looped) post
