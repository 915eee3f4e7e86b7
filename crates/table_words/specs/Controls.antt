-- The words of a place as numbers.
use Rattle.std.specs.Prelude.{ℕ, ◌+◌, ◌-◌, ◌*◌, ◌/◌, ◌%◌, ◌==◌, if◌then◌else◌}
use Rattle.life_rules.specs.declared.words.ControlWord.{ControlWord}
use Rattle.life_rules.specs.declared.words.ControlWord.TheVariants.{Idle, Busy, ReadyLoop, ReadyPool, Parked, Done}
use Rattle.life_rules.specs.declared.words.CallbackPhase.{CallbackPhase}
use Rattle.life_rules.specs.declared.words.CallbackPhase.TheVariants.{Never, Armed, Running, Ran, Removed}
use Rattle.life_rules.specs.declared.words.Bits.{Bits}
use Rattle.table_words.specs.Stamps.{code_of, packed, bit}

-- so many pending stand above the codes of the other control words
abbrev pub control_code : ControlWord → ℕ
control_code Idle = 0
control_code Done = 1
control_code ReadyLoop = 2
control_code ReadyPool = 3
control_code Parked = 4
control_code (Busy children) = 5 + children

abbrev pub control_of_code : ℕ → ControlWord
control_of_code c =
    if c == 0 then Idle else (
    if c == 1 then Done else (
    if c == 2 then ReadyLoop else (
    if c == 3 then ReadyPool else (
    if c == 4 then Parked else Busy (c - 5)))))

abbrev pub control_written : ℕ → ControlWord → ℕ
control_written generation control = packed generation (control_code control)

-- what a control word says at its generation
abbrev pub control_read : ℕ → ControlWord
control_read w = control_of_code (code_of w)

abbrev pub callback_code : CallbackPhase → ℕ
callback_code Never = 0
callback_code Armed = 1
callback_code Running = 2
callback_code Ran = 3
callback_code Removed = 4

abbrev pub callback_of_code : ℕ → CallbackPhase
callback_of_code c =
    if c == 0 then Never else (
    if c == 1 then Armed else (
    if c == 2 then Running else (
    if c == 3 then Ran else Removed)))

abbrev pub callback_written : ℕ → CallbackPhase → ℕ
callback_written generation phase = packed generation (callback_code phase)

abbrev pub callback_read : ℕ → CallbackPhase
callback_read w = callback_of_code (code_of w)

-- bit 0 is requested, bit 1 failed, bit 2 scanned
abbrev pub source_code : Bits → ℕ
source_code b = bit b.requested + 2 * bit b.failed + 4 * bit b.scanned

abbrev pub source_of_code : ℕ → Bits
source_of_code c =
    record { requested = c % 2 == 1; failed = c / 2 % 2 == 1; scanned = c / 4 % 2 == 1 }

abbrev pub source_written : ℕ → Bits → ℕ
source_written generation bits = packed generation (source_code bits)

abbrev pub source_read : ℕ → Bits
source_read w = source_of_code (code_of w)
