-- The operation that an `ahead`'s first child runs as (P3149, spawn_future), and what it came to.
use Rattle.std.specs.Prelude.{◌≡◌, ℕ, ◌+◌, ◌≤◌, Bool, ◌||◌, ◌&&◌, List, length, Some, IfSome, is_some}
use Rattle.exec_value.specs.declared.limits.TheConstants.{DATA}
use Rattle.exec_value.specs.declared.data.Datum.{Datum}
use Rattle.exec_value.specs.declared.outcome.Completion.{Completion}
use Rattle.plan_rules.specs.Images.{value_data}
use Rattle.plan_rules.specs.Settle.{ahead_of}
use Rattle.plan_shape.specs.Blueprint.{Blueprint}
use Rattle.table_steps.specs.Views.{Board}
use Rattle.home_items.specs.declared.entry.Entry.{Entry}
use Rattle.home_items.specs.Entries.{plan_of, args_of, record_number, asked_of, child_of, record_start, start_naming}
use Rattle.home_items.specs.Parcels.{Delivery}
use Rattle.home_items.specs.Starts.{IsReceiverStart}
use Rattle.node_walks.specs.declared.completing.Ended.{Ended}
use Rattle.node_walks.specs.Completes.{MayCollect}
use Rattle.serve_ahead.specs.declared.joining.Joined.{Joined}

-- its start: one of the receiver node that names this child, and else has what the `ahead` has
abbrev pub spawned_start : ℕ → List Entry → List Entry
spawned_start first start =
    start_naming first
    (record_start (plan_of start) (args_of start) (record_number start) (asked_of start))

-- The operation ran this child for the record of the start, with its arguments.
pub record IsSpawnedFor (start : List Entry) (first : ℕ) (other : List Entry) : Type 0 where
  pub receiver : IsReceiverStart other
  pub plan : plan_of other ≡ plan_of start
  pub names : child_of other ≡ Some first
  pub number : record_number other ≡ record_number start
  pub asked : asked_of other ≡ asked_of start
  pub args : args_of other ≡ args_of start

-- An operation over the table's plan was ended: it completed with what is allowed for the child
-- that its start names, or with want of memory.
pub record IsOperation (board : Board Blueprint) (ended : Ended) : Type 0 where
  pub receiver : IsReceiverStart ended.env
  pub key : plan_of ended.env ≡ board.frame.over.value
  pub may : MayCollect ended.env ended.collected.saw ended.collected.completion

-- There is room for these values behind those of the first child, where it has any.
abbrev pub HasRoom : Completion → List Datum → Type 0
HasRoom first values = IfSome (value_data first) (λ front. length front + length values ≤ DATA)

-- Whether both saw a request: the second did, or the first, whose values the `ahead` has.
abbrev pub saw_joined : Delivery → Bool → Bool
saw_joined parcel seen = parcel.saw || (is_some (value_data parcel.completion) && seen)

-- What both children came to: the second with this parcel, and the first with this completion.
pub record IsJoined (parcel : Delivery) (first : Completion) (seen : Bool) (joined : Joined) :
    Type 0 where
  pub done_is : joined.done ≡ ahead_of first parcel.completion
  pub saw_is : joined.saw ≡ saw_joined parcel seen
