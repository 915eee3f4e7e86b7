-- What a run's own calls leave of its operations.
use Rattle.std.specs.Prelude.{◌≡◌, ◌⊎◌, ℕ, ◌+◌, true, List, length, None, slice_index_or, slice_set}
use Rattle.exec_value.specs.declared.outcome.Completion.{Completion}
use Rattle.record_loop.specs.Works.{CollectsTicket}
use Rattle.table_steps.specs.Slots.{noted_at}
use Rattle.table_steps.specs.Views.{knows}
use Rattle.exec_recv.specs.Sites.{Does}
use Rattle.node_walks.specs.declared.mail.ReadyNode.{ReadyNode}
use Rattle.node_walks.specs.Emptied.{WasNotReady}
use Rattle.node_walks.specs.Mails.{HearsEach}
use Rattle.run_loop.specs.Fetches.{HearsName}
use Rattle.run_loop.specs.Turns.{MeetsEach}
use Rattle.record_operations.specs.declared.tickets.Operation.{Operation}
use Rattle.record_operations.specs.Drained.{TakesLearned}
use Rattle.record_operations.specs.Runs.{Run, WantsMemory, begun_by, root_of, work_of}
use Rattle.record_operations.specs.Sound.{Has}
use Rattle.record_operations.specs.Spawned.{ServesFutures}
use Rattle.line_rules.specs.PlanTerms.{has_ahead}

-- All operations are as they were.
pub record KeepsRun (old new : Run) : Type 0 where
  pub board : new.board ≡ old.board
  pub plan : new.plan ≡ old.plan
  pub operations : new.operations ≡ old.operations
  pub requested : new.requested ≡ old.requested
  pub tally : new.looped.tally ≡ old.looped.tally
  pub noted : (knows new.looped.hand).noted ≡ (knows old.looped.hand).noted

-- Or futures came and went, and all operations are as they were.
pub record KeepsOperations (old new : Run) : Type 0 where
  pub board : new.board ≡ old.board
  pub plan : new.plan ≡ old.plan
  pub operations : new.operations ≡ old.operations
  pub requested : new.requested ≡ old.requested
  pub tally : new.looped.tally ≡ old.looped.tally
  pub noted : (t : ℕ) (o : Operation) → Has old.operations t o →
      noted_at (knows new.looped.hand) (root_of old.board o)
      ≡ noted_at (knows old.looped.hand) (root_of old.board o)

-- The ticket has an operation whose root's word was read, and didn't say that it is ready in the
-- loop.
pub record TicketWasIncomplete (old new : Run) (ticket : ℕ) : Type 0 where
  pub operation : Operation
  pub has : Has old.operations ticket operation
  pub read : WasNotReady old.board operation.block old.looped.hand.me new.looped.hand.me

-- So it was, or the ticket has no operation.
abbrev pub LeavesNone : Run → Run → ℕ → Type 0
LeavesNone old new ticket =
    (slice_index_or old.operations ticket None ≡ None) ⊎ TicketWasIncomplete old new ticket

-- Each node that the loop was told of was taken, in order, and stepped, or its word said that it
-- isn't ready.
abbrev pub MeetsTold : Does → Run → Run → Type 0
MeetsTold does old new = MeetsEach does old.board old.looped new.looped

-- Nodes were taken and stepped, and the loop took note of what they left ready.
abbrev pub TakesTold : Does → Run → Run → Type 0
TakesTold does old new = (count : ℕ) × TakesLearned does old.board count old.looped new.looped

-- The loop took note of nodes that are ready, and of nothing else.
abbrev pub WasTold : Run → Run → Type 0
WasTold old new =
    (ready : List ReadyNode) × HearsEach HearsName ready old.looped.names new.looped.names

-- Where the run's plan has an `ahead`, its futures were served.
abbrev pub ServesAheads : Run → Run → Type 0
ServesAheads old new = has_ahead old.plan ≡ true →
    ServesFutures old.board old.plan old.futures new.futures old.looped.hand new.looped.hand

-- A turn: each node that the loop was told of was met, and then the futures were served. Of what
-- this left ready the loop took note.
pub record TurnsRun (does : Does) (old new : Run) : Type 0 where
  pub between : Run
  pub keeps : KeepsRun old between
  pub met : MeetsTold does old between
  pub took : TakesTold does old between
  pub kept : KeepsOperations between new
  pub serves : ServesAheads between new
  pub told : WasTold between new

-- The operation of the ticket was collected, and the ticket is free. The tally has one more.
pub record LeavesRun (old new : Run) (ticket : ℕ) (completion : Completion) : Type 0 where
  pub board : new.board ≡ old.board
  pub operations : new.operations ≡ slice_set old.operations ticket None
  pub tally : length new.looped.tally ≡ length old.looped.tally + 1
  pub collects : CollectsTicket WantsMemory (work_of old) (work_of new) ticket completion

-- Tickets that were free are free still, and no operation was begun.
pub record Clears (old new : Run) : Type 0 where
  pub board : new.board ≡ old.board
  pub plan : new.plan ≡ old.plan
  pub begun : begun_by new ≡ begun_by old
  pub count : length new.operations ≡ length old.operations
  pub free : (t : ℕ) → slice_index_or old.operations t None ≡ None
      → slice_index_or new.operations t None ≡ None
