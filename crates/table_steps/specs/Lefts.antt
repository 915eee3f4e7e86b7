-- What a step found in a word, and what it left there.
use Rattle.std.specs.Prelude.{◌≡◌, ℕ, ◌+◌, ◌-◌, ◌%◌, ◌^◌, ◌≤◌}
use Rattle.life_rules.specs.declared.words.ControlWord.{ControlWord}
use Rattle.life_rules.specs.declared.words.ControlWord.TheVariants.{Idle}
use Rattle.life_rules.specs.declared.words.CallbackPhase.{CallbackPhase}
use Rattle.life_rules.specs.declared.words.CallbackPhase.TheVariants.{Never}
use Rattle.life_rules.specs.declared.words.Bits.{Bits}
use Rattle.life_rules.specs.declared.event.Name.{Name}
use Rattle.life_rules.specs.Words.{clear}
use Rattle.table_words.specs.Stamps.{stamp_of}
use Rattle.table_words.specs.Controls.{control_read, callback_read, source_read}
use Rattle.table_words.specs.Layouts.{OfControl, index}
use Rattle.table_steps.specs.Seats.{Seated}
use Rattle.table_steps.specs.Readings.{says_at}
use Rattle.table_steps.specs.Slots.{Aim}

-- what an addition of one leaves, and a subtraction of one
abbrev pub plus_one : ℕ → ℕ
plus_one found = (found + 1) % 2 ^ 64

abbrev pub less_one : ℕ → ℕ
less_one found = (found + (2 ^ 64 - 1)) % 2 ^ 64

-- the control word is of the name's generation, and says this
pub record SaysControl (x : Name) (control : ControlWord) (word : ℕ) : Type 0 where
  pub stamp_is : stamp_of word ≡ x.generation
  pub reads : control_read word ≡ control

-- the callback word is of the name's generation, and says this
pub record SaysCallback (x : Name) (phase : CallbackPhase) (word : ℕ) : Type 0 where
  pub stamp_is : stamp_of word ≡ x.generation
  pub reads : callback_read word ≡ phase

-- the source's word is of the name's generation, and says this
pub record SaysSource (x : Name) (bits : Bits) (word : ℕ) : Type 0 where
  pub stamp_is : stamp_of word ≡ x.generation
  pub reads : source_read word ≡ bits

-- the word that was found said this at the name's generation, and was written no later: one of an
-- earlier generation says what such a word says at first
pub record FoundAs {A : Type 0} (first : A) (read : ℕ → A) (x : Name) (said : A)
    (word : ℕ) : Type 0 where
  pub no_later : stamp_of word ≤ x.generation
  pub reads : says_at first read x.generation word ≡ said

abbrev pub FoundControl : Name → ControlWord → ℕ → Type 0
FoundControl x control word = FoundAs Idle control_read x control word

abbrev pub FoundCallback : Name → CallbackPhase → ℕ → Type 0
FoundCallback x phase word = FoundAs Never callback_read x phase word

abbrev pub FoundSource : Name → Bits → ℕ → Type 0
FoundSource x bits word = FoundAs clear source_read x bits word

-- what a step on the node's control word tells: the word that it found said this. What else it did
-- is told of the word's index, the word that it read and the one that it left
pub record FindsControl {P E : Type 0} (aim : Aim) (before : ControlWord)
    (told : ℕ → ℕ → ℕ → Seated P E → Seated P E → Type 0) (i read left : ℕ)
    (m m' : Seated P E) : Type 0 where
  pub found : FoundControl aim.name before read
  pub did : told i read left m m'

-- a step on the node's control word found the one said, and left the other. What else it did is
-- told as there
pub record LeavesControl {P E : Type 0} (aim : Aim) (before after : ControlWord)
    (told : ℕ → ℕ → ℕ → Seated P E → Seated P E → Type 0) (m m' : Seated P E) : Type 0 where
  pub read : ℕ
  pub left : ℕ
  pub found : FoundControl aim.name before read
  pub says : SaysControl aim.name after left
  pub did : told (index aim.layout (OfControl aim.name.block aim.name.node)) read left m m'
