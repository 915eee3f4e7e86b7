-- What a step lists.
use Rattle.std.specs.Prelude.{◌≡◌, ℕ, ◌+◌, List, [], ◌∷◌}
use Rattle.atomic_table.specs.Table.{Me}
use Rattle.listed_words.specs.declared.seen.Seen.{Seen}

-- a step on this word, which found and left these numbers
abbrev pub entry : ℕ → ℕ → ℕ → Seen
entry index read left = record { index = index; read = read; left = left }

-- exactly one entry was put in front of the list, no hand was split off, and the rest is as told
pub record Listed {S V : Type 0} (steps : V → List Seen) (splits : V → ℕ) (index read left : ℕ)
    (told : Me S V → Type 0) (m m' : Me S V) : Type 0 where
  pub entry_is : steps m'.0 ≡ entry index read left ∷ steps m.0
  pub splits_are : splits m'.0 ≡ splits m.0
  pub rest : told m'

-- a hand is split off: the first keeps its list and counts one split more, the second has none yet
pub record ListsApart {V : Type 0} (steps : V → List Seen) (splits : V → ℕ)
    (v left right : V) : Type 0 where
  pub steps_stay : steps left ≡ steps v
  pub counted : splits left ≡ splits v + 1
  pub fresh : steps right ≡ []
