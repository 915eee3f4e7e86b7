-- What the words of a table say now. A place's word that was written at an older generation of its
-- block says nothing any more, nor does one in a block that was retired.
use Rattle.std.specs.Prelude.{ℕ, Bool, true, false, not, ◌&&◌, ◌==◌, nat_lt, if◌then◌else◌, List, slice_index}
use Rattle.life_rules.specs.declared.words.BlockWord.{BlockWord}
use Rattle.life_rules.specs.declared.words.BlockState.{BlockState}
use Rattle.life_rules.specs.declared.words.BlockState.TheVariants.{Free, Open, Retired}
use Rattle.life_rules.specs.declared.words.ControlWord.{ControlWord}
use Rattle.life_rules.specs.declared.words.ControlWord.TheVariants.{Idle}
use Rattle.life_rules.specs.declared.words.CallbackPhase.{CallbackPhase}
use Rattle.life_rules.specs.declared.words.CallbackPhase.TheVariants.{Never}
use Rattle.life_rules.specs.declared.words.Bits.{Bits}
use Rattle.life_rules.specs.declared.scope.ScopeWord.{ScopeWord}
use Rattle.life_rules.specs.declared.event.Name.{Name}
use Rattle.life_rules.specs.declared.event.SourceRef.{SourceRef}
use Rattle.life_rules.specs.declared.event.SourceRef.TheVariants.{Scope, Node}
use Rattle.life_rules.specs.Words.{clear}
use Rattle.table_words.specs.declared.layout.Layout.{Layout}
use Rattle.table_words.specs.Stamps.{stamp_of}
use Rattle.table_words.specs.Controls.{control_read, callback_read, source_read}
use Rattle.table_words.specs.Blocks.{block_read}
use Rattle.table_words.specs.ScopeNumbers.{scope_read}
use Rattle.table_words.specs.Layouts.{Spot, TheScope, TheScopeSource, OfBlock, OfControl, OfCallback, OfSource, index}

abbrev pub is_retired : BlockState → Bool
is_retired Free = false
is_retired Open = false
is_retired Retired = true

-- the word of this spot
abbrev pub word_of : Layout → List ℕ → Spot → ℕ
word_of l words x = slice_index words (index l x)

abbrev pub is_there : Layout → ℕ → ℕ → Bool
is_there l b n = nat_lt b l.blocks && nat_lt n l.nodes

abbrev pub block_of : Layout → List ℕ → ℕ → BlockWord
block_of l words b =
    if nat_lt b l.blocks then block_read (word_of l words (OfBlock b))
    else record { generation = 0; state = Free }

-- a place's word says something, where its block's word is this: it was written at its generation
abbrev pub is_said : BlockWord → ℕ → Bool
is_said block w = not (is_retired block.state) && stamp_of w == block.generation

-- what a place's word says then, and else the first
abbrev pub said_at : {A : Type 0} → BlockWord → A → (ℕ → A) → ℕ → A
said_at block first read w = if is_said block w then read w else first

-- what the place's word says, in a table that has the place
abbrev pub said : {A : Type 0} → Layout → List ℕ → A → (ℕ → A) → (ℕ → ℕ → Spot) → ℕ → ℕ → A
said l words first read spot b n =
    if is_there l b n then said_at (block_of l words b) first read (word_of l words (spot b n))
    else first

abbrev pub control_of : Layout → List ℕ → ℕ → ℕ → ControlWord
control_of l words = said l words Idle control_read OfControl

abbrev pub callback_of : Layout → List ℕ → ℕ → ℕ → CallbackPhase
callback_of l words = said l words Never callback_read OfCallback

abbrev pub source_of : Layout → List ℕ → ℕ → ℕ → Bits
source_of l words = said l words clear source_read OfSource

abbrev pub scope_source_of : Layout → List ℕ → Bits
scope_source_of l words = source_read (word_of l words TheScopeSource)

abbrev pub scope_of : Layout → List ℕ → ScopeWord
scope_of l words = scope_read (word_of l words TheScope)

-- the name is of its block's present generation
abbrev pub is_present : (ℕ → BlockWord) → Name → Bool
is_present blocks x =
    not (is_retired (blocks x.block).state) && x.generation == (blocks x.block).generation

abbrev pub is_present_source : (ℕ → BlockWord) → SourceRef → Bool
is_present_source blocks Scope = true
is_present_source blocks (Node x) = is_present blocks x
