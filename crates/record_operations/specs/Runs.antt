-- What a run over a table shows of the operations that it has.
use Rattle.std.specs.Prelude.{ℕ, ◌+◌, Bool, List, [], ◌∷◌, length, count_by, is_some, Option, Some, None, option_and_then, slice_index_or}
use Rattle.exec_value.specs.declared.data.Datum.{Datum}
use Rattle.life_rules.specs.declared.event.Name.{Name}
use Rattle.plan_kinds.specs.Small.{IsSmall}
use Rattle.plan_shape.specs.Blueprint.{Blueprint}
use Rattle.record_loop.specs.Works.{Begun, Work}
use Rattle.table_rules.specs.declared.view.Rooted.{Rooted}
use Rattle.table_rules.specs.Named.{find_by}
use Rattle.table_steps.specs.Views.{Board, knows}
use Rattle.table_steps.specs.Claims.{root_name}
use Rattle.home_items.specs.declared.entry.Entry.{Entry}
use Rattle.run_loop.specs.declared.looped.Loop.{Loop as Looped}
use Rattle.spawn_future.specs.declared.future.Future.{Future}
use Rattle.record_operations.specs.declared.tickets.Operation.{Operation}

-- A plan may want memory where it isn't small.
abbrev pub WantsMemory : Blueprint → Type 0
WantsMemory plan = ¬ IsSmall plan

-- The table and the plan, the loop on hand 0, the operation that each ticket has, whether a stop
-- was requested, and the futures of `ahead` nodes, each in its slot.
pub record Run : Type 0 where
  pub board : Board Blueprint
  pub plan : Blueprint
  pub looped : Looped
  pub operations : List (Option Operation)
  pub requested : Bool
  pub futures : List (Option Future)

abbrev pub run_of : Board Blueprint → Blueprint → Looped → List (Option Operation) → Bool
    → List (Option Future) → Run
run_of board plan looped operations requested futures = record {
  board = board;
  plan = plan;
  looped = looped;
  operations = operations;
  requested = requested;
  futures = futures;
}

-- The root of the operation's block.
abbrev pub root_of : Board Blueprint → Operation → Name
root_of board o = root_name board o.block.index o.block.generation

-- The record that a start of the receiver node is for: its one argument is the record's datum.
abbrev pub begun_with : Entry → List Datum → Option Begun
begun_with e (datum ∷ []) =
    Some (record { number = e.number; datum = datum; asked = e.asked })
begun_with e _ = None

abbrev pub begun_in : List Entry → Option Begun
begun_in [] = None
begun_in (e ∷ above) = begun_with e e.args

-- What an operation was begun with: the hand noted the start of its root.
abbrev pub noted_begun : Board Blueprint → List (Rooted Entry) → Operation → Option Begun
noted_begun board noted o =
    option_and_then (λ (e : Rooted Entry). begun_in e.start)
    (find_by (λ (e : Rooted Entry). e.name) noted (root_of board o))

-- So many tickets have an operation.
abbrev pub taken : List (Option Operation) → ℕ
taken operations = count_by is_some operations

-- So many operations were begun: they are collected, or have a ticket.
abbrev pub begun_by : Run → ℕ
begun_by run = length run.looped.tally + taken run.operations

-- The operations of the tickets, on the run's table.
abbrev pub work_of : Run → Work
work_of run = record {
  plan = run.plan;
  table = run.board.table_id;
  tickets = λ t. option_and_then (noted_begun run.board (knows run.looped.hand).noted)
      (slice_index_or run.operations t None);
  running = taken run.operations;
  requested = run.requested;
  collected = run.looped.tally;
}
