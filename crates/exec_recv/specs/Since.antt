-- What a hand has read since an earlier moment.
use Rattle.std.specs.Prelude.{◌≡◌, ℕ, List, ◌++◌, Contains}
use Rattle.listed_words.specs.declared.seen.Seen.{Seen}
use Rattle.listed_words.specs.Lists.{entry}
use Rattle.table_steps.specs.Seats.{Seated, view_of}
use Rattle.home_items.specs.declared.entry.Entry.{Entry}
use Rattle.home_items.specs.declared.item.Item.{Item}

-- The step left the word as it read it.
abbrev pub IsLook : Seen → Type 0
IsLook seen = seen.left ≡ seen.read

-- Among the steps made since is one on the word of this index, and what it read and left says this.
pub record HasMovedSince (index : ℕ) (says : ℕ → ℕ → Type 0) (m m' : Seated Item Entry)
    : Type 0 where
  pub fresh : List Seen
  pub grown : (view_of m').steps ≡ fresh ++ (view_of m).steps
  pub word : ℕ
  pub left : ℕ
  pub there : Contains fresh (entry index word left)
  pub said : says word left

-- What it read says this.
abbrev pub HasReadSince : ℕ → (ℕ → Type 0) → Seated Item Entry → Seated Item Entry → Type 0
HasReadSince index says m m' = HasMovedSince index (λ word left. says word) m m'
