-- Settling: the bucket of each place as the turns go on.
use Rattle.std.specs.Prelude.{◌≡◌, ◌≢◌, ℕ, ◌+◌, ◌≤◌, List, Option, Some, None, IsSome, length, map, slice_index_or}
use Rattle.std.specs.Option.{option_map}
use Rattle.timer_wheel.specs.declared.limits.TheConstants.{MOST_PLACES, MOST_TURNS, LAST_TURN}
use Rattle.timer_wheel.specs.Buckets.{bucket_of}
use Rattle.timer_wheel.specs.Links.{home_of}

-- the due turn of a place, where it has one
abbrev pub due_of : List (Option ℕ) → ℕ → Option ℕ
due_of due_turns place = slice_index_or due_turns place None

-- the bucket of each place at a turn
abbrev pub homes_at : ℕ → List (Option ℕ) → List (Option ℕ)
homes_at turn due_turns = map (option_map (bucket_of turn)) due_turns

-- each place stands where it belongs at this turn, but for those that this bucket still holds
pub record IsSettledBut (bucket turn : ℕ) (due_turns homes : List (Option ℕ)) : Type 0 where
  pub size : length homes ≡ length due_turns
  pub others : (place : ℕ) → home_of homes place ≢ Some bucket
      → home_of homes place ≡ option_map (bucket_of turn) (due_of due_turns place)
  pub there : (place : ℕ) → home_of homes place ≡ Some bucket → IsSome (due_of due_turns place)

-- no pair belongs to the bucket at this turn
abbrev pub NoneBelongs : ℕ → ℕ → List (Option ℕ) → Type 0
NoneBelongs bucket turn due_turns =
    (place due : ℕ) → due_of due_turns place ≡ Some due → bucket_of turn due ≢ bucket

-- what a wheel keeps
pub record IsWheel (turn : ℕ) (due_turns homes : List (Option ℕ)) : Type 0 where
  pub few : length due_turns ≤ MOST_PLACES
  pub not_over : turn ≤ LAST_TURN
  pub near : (place due : ℕ) → due_of due_turns place ≡ Some due → due ≤ turn + MOST_TURNS
  pub settled : homes ≡ homes_at turn due_turns
