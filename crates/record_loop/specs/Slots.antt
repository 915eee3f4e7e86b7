-- How a record is begun, and how it ends.
use Rattle.std.specs.Prelude.{◌≡◌, ◌≢◌, ℕ, Bool, true, false, count_by, List, Option, Some, None, IsSome, option_and_then}
use Rattle.exec_value.specs.Record.{record_of}
use Rattle.exec_value.specs.declared.data.Datum.{Datum}
use Rattle.exec_value.specs.declared.kinds.Kind.{Kind}
use Rattle.exec_value.specs.declared.kinds.Kind.TheVariants.{Int}
use Rattle.exec_value.specs.declared.outcome.Completion.TheVariants.{NoMemory as NoMemoryEnd}
use Rattle.exec_value.specs.declared.outcome.Outcome.{Outcome}
use Rattle.exec_value.specs.declared.outcome.Outcome.TheVariants.{Done, BadRecord}
use Rattle.plan_shape.specs.Blueprint.{Blueprint}
use Rattle.record_loop.specs.declared.slot.Slot.{Slot}
use Rattle.record_loop.specs.declared.slot.Slot.TheVariants.{Running, Bad, NoMemory}
use Rattle.record_loop.specs.Works.{Work, KeepsWork, BeginsTicket, CollectsTicket}

-- The operation of this record is begun, whose text this is.
pub record BeginsText (old new : Work) (kind : Kind) (number : ℕ) (text : Option (List ℕ))
    (ticket : ℕ) : Type 0 where
  pub datum : Datum
  pub shows : option_and_then (record_of kind) text ≡ Some datum
  pub begins : BeginsTicket old new number datum ticket

-- The record of this text has a slot: its operation is begun; or the text shows no record; or there
-- was no memory for its datum, which is no int.
abbrev pub BeginsSlot : Work → Work → Kind → ℕ → Option (List ℕ) → Slot → Type 0
BeginsSlot old new kind number text (Running ticket) = BeginsText old new kind number text ticket
BeginsSlot old new kind number text Bad =
    (option_and_then (record_of kind) text ≡ None) × KeepsWork old new
BeginsSlot old new kind number text NoMemory = (kind ≢ Int) × KeepsWork old new

-- Whether an operation runs for the record of a slot, and how many slots have one that does.
abbrev pub has_operation : Slot → Bool
has_operation (Running ticket) = true
has_operation Bad = false
has_operation NoMemory = false

abbrev pub running_in : List Slot → ℕ
running_in slots = count_by has_operation slots

-- A slot that names a ticket names one that has an operation.
abbrev pub HasOperation : Work → Slot → Type 0
HasOperation work (Running ticket) = IsSome (work.tickets ticket)
HasOperation work Bad = Unit {0}
HasOperation work NoMemory = Unit {0}

-- The record of a slot ends: with the completion of its operation, which is collected; as a bad
-- record; or with want of memory.
abbrev pub SettlesSlot : (Blueprint → Type 0) → Work → Work → Slot → Outcome → Type 0
SettlesSlot WantsMemory old new (Running ticket) (Done completion) =
    CollectsTicket WantsMemory old new ticket completion
SettlesSlot WantsMemory old new (Running ticket) BadRecord = ⊥
SettlesSlot WantsMemory old new Bad outcome = (outcome ≡ BadRecord) × KeepsWork old new
SettlesSlot WantsMemory old new NoMemory outcome = (outcome ≡ Done NoMemoryEnd) × KeepsWork old new
