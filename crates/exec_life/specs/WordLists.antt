-- The words of a state, as lists: what the rules' functions of block and node stand for.
use Rattle.std.specs.Prelude.{◌≡◌, ℕ, ◌<◌, false, List, length, slice_index_or}
use Rattle.life_rules.specs.declared.event.Place.{Place}
use Rattle.life_rules.specs.declared.event.SourceAt.{SourceAt}
use Rattle.life_rules.specs.declared.event.SourceAt.TheVariants.{Scope, At}
use Rattle.life_rules.specs.declared.scope.ScopeWord.{ScopeWord}
use Rattle.life_rules.specs.declared.words.Bits.{Bits}
use Rattle.life_rules.specs.declared.words.BlockState.TheVariants.{Free}
use Rattle.life_rules.specs.declared.words.BlockWord.{BlockWord}
use Rattle.life_rules.specs.declared.words.CallbackPhase.{CallbackPhase}
use Rattle.life_rules.specs.declared.words.CallbackPhase.TheVariants.{Never}
use Rattle.life_rules.specs.declared.words.ControlWord.{ControlWord}
use Rattle.life_rules.specs.declared.words.ControlWord.TheVariants.{Idle}
use Rattle.life_rules.specs.Words.{clear}
use Rattle.exec_life.specs.Grids.{Cells, at, HasSize}

-- the lists of the words: one for the blocks, and a grid for each word of a place
pub record WordLists : Type 0 where
  -- how many nodes each block has
  pub nodes : ℕ
  pub blocks : List BlockWord
  pub control : Cells ControlWord
  pub callback : Cells CallbackPhase
  pub source : Cells Bits
  pub scope_source : Bits
  pub scope : ScopeWord

-- each grid has a cell for each block and node
pub record AreWords (w : WordLists) : Type 0 where
  pub control_size : HasSize (length w.blocks) w.nodes w.control
  pub callback_size : HasSize (length w.blocks) w.nodes w.callback
  pub source_size : HasSize (length w.blocks) w.nodes w.source

-- the place exists
pub record HasPlace (w : WordLists) (place : Place) : Type 0 where
  pub block : place.block < length w.blocks
  pub node : place.node < w.nodes

-- the word with which a block begins
abbrev pub first_word : BlockWord
first_word = record { generation = 0; state = Free }

-- a block's word
abbrev pub block_word : WordLists → ℕ → BlockWord
block_word w b = slice_index_or w.blocks b first_word

-- the control word of a block and a node
abbrev pub control_word : WordLists → ℕ → ℕ → ControlWord
control_word w = at Idle w.control

-- the callback word there
abbrev pub callback_word : WordLists → ℕ → ℕ → CallbackPhase
callback_word w = at Never w.callback

-- the source word there
abbrev pub source_word : WordLists → ℕ → ℕ → Bits
source_word w = at clear w.source

-- what a source's word says
abbrev pub bits_in : WordLists → SourceAt → Bits
bits_in w Scope = w.scope_source
bits_in w (At place) = source_word w place.block place.node

-- the place of the source exists
abbrev pub HasSource : WordLists → SourceAt → Type 0
HasSource w Scope = Unit {0}
HasSource w (At place) = HasPlace w place

-- a scope's word at first
abbrev pub unused_word : ScopeWord
unused_word = record { used = false; closed = false; joining = false; joined = false; count = 0 }

-- the words with which all begins: so many blocks, of so many nodes
pub record AreFirstWords (blocks nodes : ℕ) (w : WordLists) : Type 0 where
  pub blocks_are : length w.blocks ≡ blocks
  pub nodes_are : w.nodes ≡ nodes
  pub block_is : block_word w ≡ (λ b. first_word)
  pub control_is : control_word w ≡ (λ b n. Idle)
  pub callback_is : callback_word w ≡ (λ b n. Never)
  pub source_is : source_word w ≡ (λ b n. clear)
  pub scope_source_is : w.scope_source ≡ clear
  pub scope_is : w.scope ≡ unused_word
