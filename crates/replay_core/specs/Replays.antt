-- The trace of a schedule.
use Rattle.std.specs.Prelude.{◌≡◌, ◌%◌, List, [], ◌∷◌, ◌++◌, length, slice_get, Option, MatchOption}
use Rattle.std.specs.Option.{option_map_or}
use Rattle.life_rules.specs.declared.event.Event.{Event}
use Rattle.life_rules.specs.States.{State}
use Rattle.life_rules.specs.Steps.{moved}
use Rattle.trace_text.specs.declared.entry.Entry.{Entry}
use Rattle.trace_text.specs.declared.entry.Choice.{Choice}
use Rattle.trace_text.specs.Values.{TraceValue, ScheduleValue}
use Rattle.replay_core.specs.Candidates.{candidates}
use Rattle.replay_core.specs.Traces.{first_state, move_of}

-- the candidate that the choice takes, counting round and round; none where there is no candidate
abbrev pub chosen : State → Choice → Option Event
chosen s c = slice_get (candidates s c.hand) (c.choice % length (candidates s c.hand))

abbrev pub entry_of : Choice → Event → Entry
entry_of c event = record { hand = c.hand; event = event }

-- the choice was followed: its candidate was a move and is an entry, or nothing changed
abbrev pub Follows : State → State → Choice → List Entry → List Entry → Type 0
Follows s t c old new =
    MatchOption (chosen s c) ((t ≡ s) × (new ≡ old))
    (λ event. (t ≡ moved s (move_of (entry_of c event))) × (new ≡ old ++ entry_of c event ∷ []))

-- the entries of the choices from a state on
abbrev pub entries_from : State → List Choice → List Entry
entries_from s [] = []
entries_from s (c ∷ cs) =
    option_map_or
    (λ event. entry_of c event ∷ entries_from (moved s (move_of (entry_of c event))) cs)
    (chosen s c) (entries_from s cs)

-- the trace of a schedule: each choice is an entry, those without a candidate aside
abbrev pub trace_of : ScheduleValue → TraceValue
trace_of t = record
    { opening = t.opening; entries = entries_from (first_state t.opening) t.entries }
