-- Pairs: what a wheel holds, and what each call makes of it.
use Rattle.std.specs.Prelude.{◌≡◌, ℕ, ◌+◌, ◌<◌, ◌≤◌, Bool, List, count_by, Option, Some, None, length, replicate, is_some, slice_set, slice_index_or}

-- the present turn, and pairs of a place and its due turn: for each place the due turn of its pair
pub record Pairs : Type 0 where
  pub turn : ℕ
  pub due_turns : List (Option ℕ)

-- the number of places
abbrev pub places : Pairs → ℕ
places pairs = length pairs.due_turns

-- the due turn of a place, where it has a pair
abbrev pub due_turn : Pairs → ℕ → Option ℕ
due_turn pairs place = slice_index_or pairs.due_turns place None

-- whether a place has a pair
abbrev pub is_there : Pairs → ℕ → Bool
is_there pairs place = is_some (due_turn pairs place)

-- how many pairs there are
abbrev pub count_of : Pairs → ℕ
count_of pairs = count_by is_some pairs.due_turns

-- no pairs, at turn 0
abbrev pub opened : ℕ → Pairs
opened places = record { turn = 0; due_turns = replicate places None }

-- with the pair of this place and the turn that comes in so many turns
abbrev pub added : Pairs → ℕ → ℕ → Pairs
added pairs place turns =
    record pairs { due_turns = slice_set pairs.due_turns place (Some (pairs.turn + turns)) }

-- without the pair of this place
abbrev pub removed : Pairs → ℕ → Pairs
removed pairs place = record pairs { due_turns = slice_set pairs.due_turns place None }

-- the same pairs at the next turn
abbrev pub advanced : Pairs → Pairs
advanced pairs = record pairs { turn = pairs.turn + 1 }

-- the place has a pair, whose turn has come
pub record IsDue (pairs : Pairs) (place : ℕ) : Type 0 where
  pub due : ℕ
  pub there : due_turn pairs place ≡ Some due
  pub come : due ≤ pairs.turn

-- no pair's turn has come
abbrev pub NoneIsDue : Pairs → Type 0
NoneIsDue pairs = (place due : ℕ) → due_turn pairs place ≡ Some due → pairs.turn < due
