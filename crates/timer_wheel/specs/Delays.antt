-- Delays: the parked delays that a loop has seen, and what each call makes of them.
use Rattle.std.specs.Prelude.{◌≡◌, ℕ, ◌+◌, ◌^◌, ◌<◌, ◌≤◌, ◌==◌, Bool, false, List, count_by, Option, Some, None, length, replicate, is_some, nat_lt, slice_set, slice_index_or, if◌then◌else◌}
use Rattle.timer_wheel.specs.declared.waiting.Waiting.{Waiting}

-- the present turn, and for each place the delay that was seen parked there
pub record DelayList : Type 0 where
  pub turn : ℕ
  pub waiting : List (Option Waiting)

-- the number of places
abbrev pub places : DelayList → ℕ
places delays = length delays.waiting

-- how many delays there are
abbrev pub count_of : DelayList → ℕ
count_of delays = count_by is_some delays.waiting

-- the delay of a place, where it has one
abbrev pub delay_at : DelayList → ℕ → Option Waiting
delay_at delays place = slice_index_or delays.waiting place None

-- a delay of so many turns, first seen in a turn, is due in the turn that comes so many turns later
abbrev pub turn_due : Waiting → ℕ
turn_due waiting = waiting.since + waiting.turns

-- whether a delay, where there is one, was seen at this generation
abbrev pub is_of : ℕ → Option Waiting → Bool
is_of generation None = false
is_of generation (Some waiting) = waiting.generation == generation

-- whether the delay of a place was seen at this generation
abbrev pub is_known : DelayList → ℕ → ℕ → Bool
is_known delays place generation = is_of generation (delay_at delays place)

-- no delays, at turn 0
abbrev pub opened : ℕ → DelayList
opened places = record { turn = 0; waiting = replicate places None }

-- with the delay of this place first seen now
abbrev pub first_seen : DelayList → ℕ → ℕ → ℕ → DelayList
first_seen delays place generation turns =
    let one : Waiting = record { generation = generation; since = delays.turn; turns = turns } in
    record delays { waiting = slice_set delays.waiting place (Some one) }

-- a delay that is known stays as it was first seen, and another is first seen now
abbrev pub seen_parked : DelayList → ℕ → ℕ → ℕ → DelayList
seen_parked delays place generation turns =
    if is_known delays place generation then delays
    else first_seen delays place generation turns

-- without the delay of this place
abbrev pub forgotten : DelayList → ℕ → DelayList
forgotten delays place = record delays { waiting = slice_set delays.waiting place None }

-- the last turn
abbrev pub last_turn : ℕ
last_turn = 2 ^ 62

-- the turn after this one: the last one stays
abbrev pub turn_after : ℕ → ℕ
turn_after turn = if nat_lt turn last_turn then turn + 1 else turn

-- the same delays at the next turn
abbrev pub at_next_turn : DelayList → DelayList
at_next_turn delays = record delays { turn = turn_after delays.turn }

-- a delay waits at the place, seen at this generation, and its turn has come
pub record IsDue (delays : DelayList) (place generation : ℕ) : Type 0 where
  pub waiting : Waiting
  pub there : delay_at delays place ≡ Some waiting
  pub generation_is : waiting.generation ≡ generation
  pub come : turn_due waiting ≤ delays.turn

-- no delay's turn has come
abbrev pub NoneIsDue : DelayList → Type 0
NoneIsDue delays = (place : ℕ) (waiting : Waiting) →
    delay_at delays place ≡ Some waiting → delays.turn < turn_due waiting
