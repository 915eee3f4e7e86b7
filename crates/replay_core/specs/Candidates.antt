-- The steps of which a hand has the choice: events of all kinds in a fixed order, those that are
-- steps.
use Rattle.std.specs.Prelude.{ℕ, true, false, List, [], ◌∷◌, ◌++◌, filter, Some}
use Rattle.std.specs.List.{flat_map, range_with_len}
use Rattle.life_rules.specs.declared.event.Event.{Event}
use Rattle.life_rules.specs.declared.event.Event.TheVariants.{Await, Rest, Look, Request, Run, SealScan, Seal}
use Rattle.life_rules.specs.declared.event.Place.{Place}
use Rattle.life_rules.specs.declared.event.Resting.TheVariants.{Loop, Pool, Parked}
use Rattle.life_rules.specs.declared.event.SourceAt.{SourceAt}
use Rattle.life_rules.specs.declared.event.SourceAt.TheVariants.{Scope, At}
use Rattle.life_rules.specs.LifeSteps.{may_be_awaited}
use Rattle.life_rules.specs.States.{State, size, name_at}
use Rattle.life_rules.specs.Steps.{may_happen}
use Rattle.trace_text.specs.declared.kinds.BareKind.TheVariants.{Enter, MarkUsed, Leave, Close, Join}
use Rattle.trace_text.specs.declared.kinds.BlockKind.{BlockKind}
use Rattle.trace_text.specs.declared.kinds.BlockKind.TheVariants.{Claim, Release, Skip}
use Rattle.trace_text.specs.declared.kinds.PlaceKind.{PlaceKind}
use Rattle.trace_text.specs.declared.kinds.PlaceKind.TheVariants.{Begin, Take, Finish, Report, Arm, EndRun, Withdraw, WithdrawOwn, Rouse}
use Rattle.trace_text.specs.Kinds.{block_event, place_event, bare_event}

-- all blocks, and all nodes of a block, by rising number
abbrev pub blocks_of : State → List ℕ
blocks_of s = range_with_len 0 s.blocks

abbrev pub nodes_of : State → List ℕ
nodes_of s = range_with_len 0 (size s)

abbrev pub place_of : ℕ → ℕ → Place
place_of b n = record { block = b; node = n }

-- all places, by rising block and then node
abbrev pub places_in : State → ℕ → List Place
places_in s b = flat_map (λ n. place_of b n ∷ []) (nodes_of s)

abbrev pub places_of : State → List Place
places_of s = flat_map (places_in s) (blocks_of s)

-- all sources, by rising place, the scope's last
abbrev pub sources_of : State → List SourceAt
sources_of s = flat_map (λ p. At p ∷ []) (places_of s) ++ Scope ∷ []

-- the children of the place's node that haven't begun, by rising number
abbrev pub fresh_children : State → Place → List ℕ
fresh_children s p = filter (may_be_awaited s (name_at s p)) (nodes_of s)

-- the events of a kind, at each block, place or source
abbrev pub at_blocks : State → BlockKind → List Event
at_blocks s kind = flat_map (λ b. block_event kind b ∷ []) (blocks_of s)

abbrev pub at_places : State → PlaceKind → List Event
at_places s kind = flat_map (λ p. place_event kind p ∷ []) (places_of s)

abbrev pub awaits : State → List Event
awaits s = flat_map (λ p. Await p (fresh_children s p) ∷ []) (places_of s)

abbrev pub rests_at : Place → List Event
rests_at p = Rest p Loop ∷ Rest p Pool ∷ Rest p Parked ∷ []

-- looks at a source, after the arming of each place; only that place's nearest source is a step
abbrev pub looks_at : State → SourceAt → List Event
looks_at s source = flat_map (λ p. Look source (Some p) ∷ []) (places_of s)

abbrev pub requests_at : SourceAt → List Event
requests_at source = Request source false ∷ Request source true ∷ []

-- runs in a scan of the source, at each place; only the scan's next place is a step
abbrev pub runs_at : State → SourceAt → List Event
runs_at s source = flat_map (λ p. Run source p ∷ []) (places_of s)

abbrev pub seal_scans : State → List Event
seal_scans s = flat_map (λ source. SealScan source ∷ []) (sources_of s)

-- the first eight kinds: an operation's life
abbrev pub life_events : State → List Event
life_events s =
    at_blocks s Claim
    ++ (at_places s Begin
    ++ (awaits s
    ++ (flat_map rests_at (places_of s)
    ++ (at_places s Take ++ (at_places s Finish ++ (at_places s Report ++ at_blocks s Release))))))

-- the next nine: stop sources and callbacks
abbrev pub stop_events : State → List Event
stop_events s =
    at_places s Arm
    ++ (flat_map (looks_at s) (sources_of s)
    ++ (flat_map requests_at (sources_of s)
    ++ (flat_map (runs_at s) (sources_of s)
    ++ (at_places s EndRun
    ++ (at_places s Withdraw ++ (at_places s WithdrawOwn ++ (seal_scans s ++ at_blocks s Skip)))))))

-- the last seven: a callback that wakes its node, and the scope
abbrev pub scope_events : State → List Event
scope_events s =
    at_places s Rouse
    ++ (bare_event Enter
    ∷ bare_event MarkUsed
    ∷ bare_event Leave
    ∷ bare_event Close
    ∷ bare_event Join
    ∷ Seal s.scope
    ∷ [])

-- the events that are steps of the hand, kind by kind
abbrev pub candidates : State → ℕ → List Event
candidates s h = filter (may_happen s h) (life_events s ++ (stop_events s ++ scope_events s))
