-- The slots in which futures are kept (P3149, spawn_future).
use Rattle.std.specs.Prelude.{◌≡◌, ℕ, ◌<◌, ◌≤◌, Bool, true, not, ◌&&◌, if◌then◌else◌, List, length, count_by, is_some, Option, Some, None, IsSome, slice_index_or, slice_set}
use Rattle.life_rules.specs.declared.event.Name.{Name}
use Rattle.life_rules.specs.Views.{same}
use Rattle.table_steps.specs.declared.block.Block.{Block}
use Rattle.spawn_future.specs.declared.future.Future.{Future}
use Rattle.spawn_future.specs.declared.limits.TheConstants.{MOST_FUTURES}
use Rattle.spawn_future.specs.declared.slots.Found.{Found}

-- So many futures are kept.
abbrev pub kept_in : List (Option Future) → ℕ
kept_in slots = count_by is_some slots

-- All slots have one, or at least one has none.
abbrev pub IsFull : List (Option Future) → Type 0
IsFull slots = kept_in slots ≡ length slots

abbrev pub HasRoom : List (Option Future) → Type 0
HasRoom slots = kept_in slots < length slots

-- The slot has this future.
abbrev pub Has : List (Option Future) → ℕ → Future → Type 0
Has slots t f = slice_index_or slots t None ≡ Some f

-- It is the owner's, and isn't abandoned.
abbrev pub is_waited : Name → Future → Bool
is_waited owner f = not f.abandoned && same f.owner owner

-- The block of a slot's future, where the owner waits for it, and where it is abandoned.
abbrev pub waited_block : Name → Option Future → Option Block
waited_block owner None = None
waited_block owner (Some f) = if is_waited owner f then Some f.block else None

abbrev pub abandoned_block : Option Future → Option Block
abandoned_block None = None
abandoned_block (Some f) = if f.abandoned then Some f.block else None

-- The slot has a future in this block.
pub record HasBlock (slots : List (Option Future)) (t : ℕ) (b : Block) : Type 0 where
  pub future : Future
  pub has : Has slots t future
  pub block_is : future.block ≡ b

-- The owner waits for the future in the slot.
pub record WaitsAt (owner : Name) (slots : List (Option Future)) (t : ℕ) (f : Future) : Type 0 where
  pub has : Has slots t f
  pub waited : is_waited owner f ≡ true

-- The slot is one of these, and free.
pub record IsFree (slots : List (Option Future)) (t : ℕ) : Type 0 where
  pub within : t < length slots
  pub none : slice_index_or slots t None ≡ None

-- None of them is.
abbrev pub AllTaken : List (Option Future) → Type 0
AllTaken slots = (t : ℕ) → t < length slots → IsSome (slice_index_or slots t None)

-- The owner waits for the future in this slot, which is in this block.
pub record IsFoundAt (owner : Name) (slots : List (Option Future)) (found : Found) : Type 0 where
  pub within : found.slot < length slots
  pub block : waited_block owner (slice_index_or slots found.slot None) ≡ Some found.block

-- It waits for none.
abbrev pub WaitsNowhere : Name → List (Option Future) → Type 0
WaitsNowhere owner slots = (t : ℕ) → waited_block owner (slice_index_or slots t None) ≡ None

-- The future of the slot is abandoned now.
pub record IsMarkedAt (old new : List (Option Future)) (t : ℕ) : Type 0 where
  pub future : Future
  pub had : Has old t future
  pub slots : new ≡ slice_set old t (Some (record future { abandoned = true }))

-- What the type keeps: there are 1 to 64 slots, so many have a future, and no owner waits for two.
pub record AreSlots (slots : List (Option Future)) (kept : ℕ) : Type 0 where
  pub some : 1 ≤ length slots
  pub few : length slots ≤ MOST_FUTURES
  pub count : kept ≡ kept_in slots
  pub owners : (owner : Name) (t u : ℕ) (f g : Future) → Has slots t f → Has slots u g
      → is_waited owner f ≡ true → is_waited owner g ≡ true → t ≡ u
