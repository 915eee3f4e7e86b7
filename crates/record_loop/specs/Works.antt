-- What the layer below shows of the operations that it runs.
use Rattle.std.specs.Prelude.{◌≡◌, ◌≢◌, ◌⊎◌, ℕ, ◌+◌, Bool, true, false, List, [], ◌∷◌, Option, None, Some}
use Rattle.atomic_table.specs.Seated.{TableId}
use Rattle.exec_value.specs.declared.data.Datum.{Datum}
use Rattle.exec_value.specs.declared.outcome.Completion.{Completion}
use Rattle.exec_value.specs.declared.outcome.Completion.TheVariants.{NoMemory}
use Rattle.plan_rules.specs.Seen.{seen_state}
use Rattle.plan_shape.specs.Blueprint.{Blueprint}
use Rattle.line_rules.specs.PlanTerms.{AllowsRecord, MayWant}
use Rattle.run_tally.specs.Gathered.{Gathered, gathered}

-- What an operation was begun with: the number and the datum of its record, and whether a stop had
-- been requested.
pub record Begun : Type 0 where
  pub number : ℕ
  pub datum : Datum
  pub asked : Bool

-- The plan, the table on which operations run, the operation that each ticket has, how many
-- operations were begun and not collected, whether a stop was requested, and the operations that
-- were collected, the last first.
pub record Work : Type 0 where
  pub plan : Blueprint
  pub table : TableId
  pub tickets : ℕ → Option Begun
  pub running : ℕ
  pub requested : Bool
  pub collected : List Gathered

-- No stop was requested, no operation collected, and none runs.
pub record IsIdle (work : Work) : Type 0 where
  pub requested : work.requested ≡ false
  pub collected : work.collected ≡ []
  pub running : work.running ≡ 0

-- All operations are kept.
pub record KeepsWork (old new : Work) : Type 0 where
  pub plan : new.plan ≡ old.plan
  pub table : new.table ≡ old.table
  pub running : new.running ≡ old.running
  pub requested : new.requested ≡ old.requested
  pub collected : new.collected ≡ old.collected
  pub tickets : (t : ℕ) (begun : Begun) → old.tickets t ≡ Some begun → new.tickets t ≡ Some begun

-- The operation of this record is begun and has a ticket, and runs as one more. The others are
-- kept.
pub record BeginsTicket (old new : Work) (number : ℕ) (datum : Datum) (ticket : ℕ) : Type 0 where
  pub plan : new.plan ≡ old.plan
  pub table : new.table ≡ old.table
  pub running : new.running ≡ old.running + 1
  pub requested : new.requested ≡ old.requested
  pub collected : new.collected ≡ old.collected
  pub tickets : (t : ℕ) (begun : Begun) → old.tickets t ≡ Some begun → new.tickets t ≡ Some begun
  pub begun : new.tickets ticket
      ≡ Some (record { number = number; datum = datum; asked = old.requested })

-- A stop is requested.
pub record Requests (old new : Work) : Type 0 where
  pub plan : new.plan ≡ old.plan
  pub table : new.table ≡ old.table
  pub running : new.running ≡ old.running
  pub requested : new.requested ≡ true
  pub collected : new.collected ≡ old.collected
  pub tickets : (t : ℕ) (begun : Begun) → old.tickets t ≡ Some begun → new.tickets t ≡ Some begun

-- How an operation may complete: with want of memory, where the plan may want it, or as the plan
-- allows it, under what it may have seen of the request.
abbrev pub MayCompleteWork : (Blueprint → Type 0) → Work → Begun → Completion → Type 0
MayCompleteWork WantsMemory work begun completion =
    ((completion ≡ NoMemory) × MayWant WantsMemory work.plan)
    ⊎ AllowsRecord work.plan begun.number begun.datum (seen_state begun.asked work.requested)
    completion

-- The operation of a ticket is collected, with this completion, and runs no more; the ticket has
-- none now. The others are kept. It stands among what was collected, as one of its record, the plan
-- and the table.
pub record CollectsTicket (WantsMemory : Blueprint → Type 0) (old new : Work) (ticket : ℕ)
    (completion : Completion) : Type 0 where
  pub plan : new.plan ≡ old.plan
  pub table : new.table ≡ old.table
  pub running : old.running ≡ new.running + 1
  pub requested : new.requested ≡ old.requested
  pub collected : (begun : Begun) → old.tickets ticket ≡ Some begun
      → new.collected ≡ gathered old.plan old.table begun.number completion ∷ old.collected
  pub free : new.tickets ticket ≡ None
  pub others : (t : ℕ) (begun : Begun) → t ≢ ticket → old.tickets t ≡ Some begun
      → new.tickets t ≡ Some begun
  pub ends : (begun : Begun) → old.tickets ticket ≡ Some begun
      → MayCompleteWork WantsMemory old begun completion
