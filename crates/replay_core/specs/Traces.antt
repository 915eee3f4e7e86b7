-- The states along a trace, and which of its entries are steps.
use Rattle.std.specs.Prelude.{ℕ, ◌<◌, ◌≤◌, Bool, false, List, map, take, length, slice_get, IsTrue}
use Rattle.std.specs.Option.{option_map_or}
use Rattle.life_rules.specs.Opening.{opening}
use Rattle.life_rules.specs.Sound.{Sound}
use Rattle.life_rules.specs.States.{State}
use Rattle.life_rules.specs.Steps.{Move, is_step, run}
use Rattle.trace_text.specs.declared.entry.Entry.{Entry}
use Rattle.trace_text.specs.Setups.{Setup}
use Rattle.trace_text.specs.Values.{TraceValue}

-- the state with which a trace begins
abbrev pub first_state : Setup → State
first_state o = opening o.nodes o.blocks o.hands o.kind o.most

-- what the entry's hand tries
abbrev pub move_of : Entry → Move
move_of e = record { hand = e.hand; event = e.event }

-- the state after these entries
abbrev pub state_after : Setup → List Entry → State
state_after o entries = run (map move_of entries) (first_state o)

-- the state in which the trace's entry k, from 0, is tried
abbrev pub state_at : TraceValue → ℕ → State
state_at t k = state_after t.opening (take k t.entries)

-- the trace's entry k, from 0, is a step
abbrev pub is_taken : TraceValue → ℕ → Bool
is_taken t k = option_map_or (λ e. is_step (state_at t k) (move_of e)) (slice_get t.entries k) false

-- each of the trace's first n entries is a step
abbrev pub AreTaken : TraceValue → ℕ → Type 0
AreTaken t n = (k : ℕ) → k < n → IsTrue (is_taken t k)

-- each state along the trace is sound
abbrev pub AreSound : TraceValue → Type 0
AreSound t = (k : ℕ) → k ≤ length t.entries → Sound (state_at t k)
