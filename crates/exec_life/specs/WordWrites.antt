-- What a write does to the words: one of them changes, and all others stay.
use Rattle.std.specs.Prelude.{◌≡◌, ℕ, ◌==◌, if◌then◌else◌, length}
use Rattle.life_rules.specs.declared.words.Bits.{Bits}
use Rattle.life_rules.specs.declared.words.BlockWord.{BlockWord}
use Rattle.life_rules.specs.declared.words.CallbackPhase.{CallbackPhase}
use Rattle.life_rules.specs.declared.words.CallbackPhase.TheVariants.{Never}
use Rattle.life_rules.specs.declared.words.ControlWord.{ControlWord}
use Rattle.life_rules.specs.declared.words.ControlWord.TheVariants.{Idle}
use Rattle.life_rules.specs.declared.event.SourceAt.{SourceAt}
use Rattle.life_rules.specs.declared.event.SourceAt.TheVariants.{Scope, At}
use Rattle.life_rules.specs.States.{set_at}
use Rattle.life_rules.specs.Words.{clear}
use Rattle.exec_life.specs.Grids.{row_at}
use Rattle.exec_life.specs.WordLists.{WordLists, block_word, control_word, callback_word, source_word}

-- the word of this block
pub record SetsBlock (old new : WordLists) (b : ℕ) (word : BlockWord) : Type 0 where
  pub word_is : block_word new ≡ (λ i. if i == b then word else block_word old i)
  pub rest : new ≡ record old { blocks = new.blocks }
  pub count : length new.blocks ≡ length old.blocks

-- the control word of this place
pub record SetsControl (old new : WordLists) (b n : ℕ) (word : ControlWord) : Type 0 where
  pub word_is : control_word new ≡ set_at (control_word old) b n word
  pub rest : new ≡ record old { control = new.control }

-- the callback word of this place
pub record SetsCallback (old new : WordLists) (b n : ℕ) (phase : CallbackPhase) : Type 0 where
  pub word_is : callback_word new ≡ set_at (callback_word old) b n phase
  pub rest : new ≡ record old { callback = new.callback }

-- the source word of this place
pub record SetsBits (old new : WordLists) (b n : ℕ) (bits : Bits) : Type 0 where
  pub word_is : source_word new ≡ set_at (source_word old) b n bits
  pub rest : new ≡ record old { source = new.source }

-- the word of this source
abbrev pub SetsSource : WordLists → WordLists → SourceAt → Bits → Type 0
SetsSource old new Scope bits = new ≡ record old { scope_source = bits }
SetsSource old new (At place) bits = SetsBits old new place.block place.node bits

-- all places of this block read as at first
pub record ClearsWords (old new : WordLists) (b : ℕ) : Type 0 where
  pub control_is : control_word new ≡ row_at (control_word old) b Idle
  pub callback_is : callback_word new ≡ row_at (callback_word old) b Never
  pub source_is : source_word new ≡ row_at (source_word old) b clear
  pub rest :
      new ≡ record old { control = new.control; callback = new.callback; source = new.source }
