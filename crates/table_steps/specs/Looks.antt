-- What a load of a node's control word tells.
use Rattle.std.specs.Prelude.{◌≡◌, ℕ, Bool, true, false, if◌then◌else◌, Option, Some, None}
use Rattle.life_rules.specs.declared.words.ControlWord.{ControlWord}
use Rattle.life_rules.specs.declared.words.ControlWord.TheVariants.{Idle, Busy, ReadyLoop, ReadyPool, Parked, Done}
use Rattle.life_rules.specs.declared.event.Name.{Name}
use Rattle.table_words.specs.Stamps.{stamp_of}
use Rattle.table_words.specs.Controls.{control_read}
use Rattle.table_words.specs.Layouts.{OfControl, index}
use Rattle.atomic_table.specs.declared.shared.Seat.{Seat}
use Rattle.table_rules.specs.declared.view.View.{View}
use Rattle.node_tree.specs.declared.context.Context.{Context}
use Rattle.node_tree.specs.declared.context.Context.TheVariants.{Loop, Pool}
use Rattle.table_steps.specs.Views.{Board, knows}
use Rattle.table_steps.specs.Claims.{logged}
use Rattle.table_steps.specs.Seats.{homes_of}

-- the node is ready in the loop
abbrev pub is_ready_loop : ControlWord → Bool
is_ready_loop Idle = false
is_ready_loop (Busy children) = false
is_ready_loop ReadyLoop = true
is_ready_loop ReadyPool = false
is_ready_loop Parked = false
is_ready_loop Done = false

-- the node is ready in the pool
abbrev pub is_ready_pool : ControlWord → Bool
is_ready_pool Idle = false
is_ready_pool (Busy children) = false
is_ready_pool ReadyLoop = false
is_ready_pool ReadyPool = true
is_ready_pool Parked = false
is_ready_pool Done = false

abbrev pub is_ready_in : Context → ControlWord → Bool
is_ready_in Loop control = is_ready_loop control
is_ready_in Pool control = is_ready_pool control

-- a load of the node's control word read this word, and is listed
abbrev pub IsRead : {P E O : Type 0} → Board O → ℕ → ℕ → ℕ → Seat (Option P) (View P E) →
    Seat (Option P) (View P E) → Type 0
IsRead board block node word old new =
    new.me ≡ (
      logged (index board.frame.layout (OfControl block node)) word (knows old),
      homes_of old.me,
    )

-- the name is answered exactly where the word that was read passes the test, and the load is listed
pub record IsReadAs {P E O : Type 0} (board : Board O) (block node : ℕ) (test : ControlWord → Bool)
    (answer : Option Name) (old new : Seat (Option P) (View P E)) : Type 0 where
  pub word : ℕ
  pub answer_is : answer
      ≡ (if test (control_read word)
      then Some (record { block = block; generation = stamp_of word; node = node }) else None)
  pub me_is : IsRead board block node word old new
