-- What is left open in a state.
use Rattle.std.specs.Prelude.{ℕ, ◌==◌, Bool, not, ◌&&◌, ◌||◌, nat_lt, if◌then◌else◌, List, [], ◌++◌, length, drop, codes}
use Rattle.std.specs.List.{flat_map}
use Rattle.life_rules.specs.declared.event.SourceAt.{SourceAt}
use Rattle.life_rules.specs.declared.event.SourceAt.TheVariants.{Scope, At}
use Rattle.life_rules.specs.States.{State, name_at, phase_at, bits_at}
use Rattle.life_rules.specs.StopSteps.{source_of, is_source}
use Rattle.life_rules.specs.Words.{is_open, is_armed, is_running}
use Rattle.replay_core.specs.Candidates.{blocks_of, nodes_of, place_of}
use Rattle.trace_text.specs.Texts.{place_text, source_text}
use Rattle.trace_reasons.specs.Sentences.{between}

-- an operation lives in the block
abbrev pub block_mark : State → ℕ → List ℕ
block_mark s b = if is_open (s.block b).state then between (codes ", block ") b [] else []

-- the node's callback is armed, or runs
abbrev pub callback_mark : State → ℕ → ℕ → List ℕ
callback_mark s b n =
    let phase = phase_at s (name_at s (place_of b n)) in
    if is_armed phase || is_running phase
    then codes ", callback " ++ place_text (place_of b n)
    else []

-- a stop was requested on the source, and its scan isn't over
abbrev pub is_unscanned : State → SourceAt → Bool
is_unscanned s at =
    is_source s at
    && ((bits_at s (source_of s at)).requested && not (bits_at s (source_of s at)).scanned)

abbrev pub scan_mark : State → SourceAt → List ℕ
scan_mark s at = if is_unscanned s at then codes ", scan of " ++ source_text at else []

-- so many associations are counted
abbrev pub association_mark : ℕ → List ℕ
association_mark count =
    if count == 0 then [] else
    between (codes ", ") count (if count == 1 then codes " association" else codes " associations")

abbrev pub callback_marks : State → ℕ → List ℕ
callback_marks s b = flat_map (callback_mark s b) (nodes_of s)

abbrev pub scan_marks : State → ℕ → List ℕ
scan_marks s b = flat_map (λ n. scan_mark s (At (place_of b n))) (nodes_of s)

-- all that is open, each behind a comma
abbrev pub marks : State → List ℕ
marks s =
    flat_map (block_mark s) (blocks_of s)
    ++ (flat_map (callback_marks s) (blocks_of s)
    ++ (flat_map (scan_marks s) (blocks_of s)
    ++ (scan_mark s Scope ++ association_mark s.scope.count)))

-- the first comma aside
abbrev pub open_text : List ℕ → List ℕ
open_text all =
    if nat_lt (length all) 2 then codes "nothing open" else codes "open: " ++ drop 2 all
