-- What never goes back in the words of a table.
use Rattle.std.specs.Prelude.{◌≡◌, ℕ, ◌≤◌, true, List}
use mathlib.Core.Option.{some}
use lib.ListN.{get_elem?}
use Rattle.life_rules.specs.declared.words.Bits.{Bits}
use Rattle.life_rules.specs.declared.words.ControlWord.TheVariants.{Done}
use Rattle.life_rules.specs.declared.scope.ScopeWord.{ScopeWord}
use Rattle.table_words.specs.declared.layout.Layout.{Layout}
use Rattle.table_words.specs.Stamps.{stamp_of}
use Rattle.table_words.specs.Controls.{control_read, source_read}
use Rattle.table_words.specs.ScopeNumbers.{scope_read}
use Rattle.table_words.specs.Layouts.{Spot, TheScope, TheScopeSource, OfBlock, OfControl, OfCallback, OfSource, IsSpot, index}
use Rattle.table_rules.specs.declared.view.View.{View}
use Rattle.listed_words.specs.declared.seen.Seen.{Seen}
use Rattle.table_rules.specs.Named.{Each}
use Rattle.table_rules.specs.ShownWords.{word_of}

-- each bit of the older word of the scope is set in the newer one
pub record HasBitsOf (old new : ScopeWord) : Type 0 where
  pub used : old.used ≡ true → new.used ≡ true
  pub closed : old.closed ≡ true → new.closed ≡ true
  pub joining : old.joining ≡ true → new.joining ≡ true
  pub joined : old.joined ≡ true → new.joined ≡ true

-- each bit of the older word of a source is set in the newer one
pub record HasBitsOfSource (old new : Bits) : Type 0 where
  pub requested : old.requested ≡ true → new.requested ≡ true
  pub failed : old.failed ≡ true → new.failed ≡ true
  pub scanned : old.scanned ≡ true → new.scanned ≡ true

-- the scope's word, which stands first, has each bit that these steps read or left there
abbrev pub KeepsBits : List Seen → ScopeWord → Type 0
KeepsBits steps now =
    Each (λ e. e.index ≡ 0 → HasBitsOf (scope_read e.read) now
    × HasBitsOf (scope_read e.left) now) steps

-- the control word is of no earlier generation, and a node that is done stays so within its
-- generation
pub record IsLaterControl (old new : ℕ) : Type 0 where
  pub stamp : stamp_of old ≤ stamp_of new
  pub done : stamp_of old ≡ stamp_of new → control_read old ≡ Done → control_read new ≡ Done

-- the source's word is of no earlier generation, and keeps its bits within one
pub record IsLaterSource (old new : ℕ) : Type 0 where
  pub stamp : stamp_of old ≤ stamp_of new
  pub bits : stamp_of old ≡ stamp_of new → HasBitsOfSource (source_read old) (source_read new)

-- the second word may stand there after the first: the scope and its source lose no bit, those of
-- places are later, and those of blocks and callbacks are no smaller
abbrev pub IsLater : Spot → ℕ → ℕ → Type 0
IsLater TheScope old new = HasBitsOf (scope_read old) (scope_read new)
IsLater TheScopeSource old new = HasBitsOfSource (source_read old) (source_read new)
IsLater (OfBlock b) old new = old ≤ new
IsLater (OfControl b n) old new = IsLaterControl old new
IsLater (OfCallback b n) old new = old ≤ new
IsLater (OfSource b n) old new = IsLaterSource old new

-- the word there now may stand there after the one that a step read, and after the one that it left
abbrev pub HasRisen : Layout → List ℕ → Seen → Type 0
HasRisen l words e =
    (y : Spot) → IsSpot l y → e.index ≡ index l y →
    IsLater y e.read (word_of l words y) × IsLater y e.left (word_of l words y)

-- so it is with each step that some hand listed
abbrev pub HaveRisen : {P E : Type 0} → Layout → List ℕ → List (View P E) → Type 0
HaveRisen {P} {E} l words views =
    (h : ℕ) (v : View P E) → get_elem? views h ≡ some v → Each (HasRisen l words) v.steps
