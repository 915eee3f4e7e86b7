-- What the words of a block and of its places say.
use Rattle.std.specs.Prelude.{ℕ, ◌-◌, Bool, true, false, not, ◌==◌, ◌||◌}
use Rattle.life_rules.specs.declared.words.BlockState.{BlockState}
use Rattle.life_rules.specs.declared.words.BlockState.TheVariants.{Free, Open, Retired}
use Rattle.life_rules.specs.declared.words.ControlWord.{ControlWord}
use Rattle.life_rules.specs.declared.words.ControlWord.TheVariants.{Idle, Busy, ReadyLoop, ReadyPool, Parked, Done}
use Rattle.life_rules.specs.declared.words.CallbackPhase.{CallbackPhase}
use Rattle.life_rules.specs.declared.words.CallbackPhase.TheVariants.{Never, Armed, Running, Ran, Removed}
use Rattle.life_rules.specs.declared.words.Bits.{Bits}
use Rattle.life_rules.specs.declared.event.Resting.{Resting}
use Rattle.life_rules.specs.declared.event.Resting.TheVariants.{Loop, Pool, Parked as Aside}

abbrev pub is_open : BlockState → Bool
is_open Free = false
is_open Open = true
is_open Retired = false

abbrev pub is_free : BlockState → Bool
is_free Free = true
is_free Open = false
is_free Retired = false

-- the node hasn't begun
abbrev pub is_idle : ControlWord → Bool
is_idle Idle = true
is_idle (Busy children) = false
is_idle ReadyLoop = false
is_idle ReadyPool = false
is_idle Parked = false
is_idle Done = false

-- a hand holds the node: it has begun, and no child is pending
abbrev pub is_held : ControlWord → Bool
is_held Idle = false
is_held (Busy children) = children == 0
is_held ReadyLoop = false
is_held ReadyPool = false
is_held Parked = false
is_held Done = false

abbrev pub is_done : ControlWord → Bool
is_done Idle = false
is_done (Busy children) = false
is_done ReadyLoop = false
is_done ReadyPool = false
is_done Parked = false
is_done Done = true

abbrev pub is_parked : ControlWord → Bool
is_parked Idle = false
is_parked (Busy children) = false
is_parked ReadyLoop = false
is_parked ReadyPool = false
is_parked Parked = true
is_parked Done = false

-- the node has begun and isn't done
abbrev pub is_under_way : ControlWord → Bool
is_under_way word = not (is_idle word || is_done word)

-- how many children are still to report
abbrev pub pending : ControlWord → ℕ
pending Idle = 0
pending (Busy children) = children
pending ReadyLoop = 0
pending ReadyPool = 0
pending Parked = 0
pending Done = 0

-- the word after one child's report
abbrev pub one_less : ControlWord → ControlWord
one_less Idle = Idle
one_less (Busy children) = Busy (children - 1)
one_less ReadyLoop = ReadyLoop
one_less ReadyPool = ReadyPool
one_less Parked = Parked
one_less Done = Done

-- the word of a node that rests there
abbrev pub resting_at : Resting → ControlWord
resting_at Loop = ReadyLoop
resting_at Pool = ReadyPool
resting_at Aside = Parked

-- whether a hand may take the node: what is ready in the pool any hand, all else hand 0
abbrev pub may_be_taken : ControlWord → ℕ → Bool
may_be_taken Idle hand = false
may_be_taken (Busy children) hand = false
may_be_taken ReadyLoop hand = hand == 0
may_be_taken ReadyPool hand = true
may_be_taken Parked hand = hand == 0
may_be_taken Done hand = false

abbrev pub is_never : CallbackPhase → Bool
is_never Never = true
is_never Armed = false
is_never Running = false
is_never Ran = false
is_never Removed = false

abbrev pub is_armed : CallbackPhase → Bool
is_armed Never = false
is_armed Armed = true
is_armed Running = false
is_armed Ran = false
is_armed Removed = false

abbrev pub is_running : CallbackPhase → Bool
is_running Never = false
is_running Armed = false
is_running Running = true
is_running Ran = false
is_running Removed = false

abbrev pub has_run : CallbackPhase → Bool
has_run Never = false
has_run Armed = false
has_run Running = false
has_run Ran = true
has_run Removed = false

-- a source on which nothing was requested
abbrev pub clear : Bits
clear = record { requested = false; failed = false; scanned = false }
