-- What the blocks of plain runs have.
use Rattle.std.specs.Prelude.{◌≡◌, ◌⊎◌, ℕ, ◌<◌, ◌≤◌, ◌^◌, Bool, false, List, [], length, count_by, slice_index_or, replicate, Option, None, Some, is_some, Vec}
use Rattle.std.specs.Option.{option_map}
use Rattle.std.specs.declared.alloc.Global.{Global}
use Rattle.atomic_table.specs.Seated.{TableId}
use Rattle.exec_value.specs.Kinds.{HasKind}
use Rattle.exec_value.specs.declared.outcome.Completion.{Completion}
use Rattle.exec_value.specs.declared.outcome.Completion.TheVariants.{NoMemory}
use Rattle.plan_kinds.specs.Reached.{KindsMatch}
use Rattle.plan_settle.specs.Root.{settled_root}
use Rattle.plan_kinds.specs.Small.{IsSmall}
use Rattle.plan_shape.specs.Blueprint.{Blueprint}
use Rattle.plain_runs.specs.declared.started.Started.{Started}
use Rattle.record_loop.specs.Works.{Begun, Work}
use Rattle.run_tally.specs.Gathered.{Gathered}

-- A plan may want memory where it isn't small.
abbrev pub WantsMemory : Blueprint → Type 0
WantsMemory plan = ¬ IsSmall plan

-- An operation completes with what the plan settles to, or with want of memory, where the plan may
-- want it.
abbrev pub Completes : Blueprint → Started → Completion → Type 0
Completes plan started completion =
    (completion ≡ settled_root plan started.datum started.number started.asked)
    ⊎ ((completion ≡ NoMemory) × WantsMemory plan)

-- The plan, what each block has, whether a stop was requested, and what was collected.
pub record Plain : Type 0 where
  pub plan : Blueprint
  pub blocks : List (Option Started)
  pub requested : Bool
  pub collected : List Gathered

-- What an operation was begun with.
abbrev pub begun_of : Started → Begun
begun_of started =
    record { number = started.number; datum = started.datum; asked = started.asked }

-- Plain operations run on no table. This stands in its place: it has no words and no slots.
abbrev pub no_table : TableId
no_table = record {
  words = 0;
  slots = 0;
  views_name = 0;
  atom = 0;
  block = 0;
  offset = 0;
  slot_names = [];
}

-- The operations of the blocks. The ticket of one is the number of its block, and each block that
-- isn't free has one that runs.
abbrev pub plain_work : Plain → Work
plain_work plain = record {
  plan = plain.plan;
  table = no_table;
  tickets = λ b. option_map begun_of (slice_index_or plain.blocks b None);
  running = count_by is_some plain.blocks;
  requested = plain.requested;
  collected = plain.collected;
}

-- The kinds of the plan match, and each block has a datum of the input's kind. A plan that isn't
-- noted as small isn't so, and the block that is next to be taken is there.
pub record IsSoundPlain (plan : Blueprint) (blocks : List (Option Started)) (next : ℕ)
    (small : Bool)
    : Type 0 where
  pub matching : KindsMatch plan.nodes plan.settings.input
  pub kinds : (b : ℕ) (started : Started) → slice_index_or blocks b None ≡ Some started
      → HasKind started.datum plan.settings.input
  pub wants : small ≡ false → ¬ IsSmall plan
  pub within : next < length blocks
  pub few : length blocks ≤ 2 ^ 16

-- So many blocks, all of them free.
abbrev pub AreFree : ℕ → Vec (Option Started) Global → Type 0
AreFree blocks free = free.items ≡ replicate blocks None
