-- Sources, and where a scan stands.
use Rattle.std.specs.Prelude.{ℕ, Bool, true, false, ◌&&◌, ◌==◌, nat_lt, if◌then◌else◌, Option, Some, None}
use Rattle.life_rules.specs.declared.event.Place.{Place}
use Rattle.life_rules.specs.declared.event.SourceAt.{SourceAt}
use Rattle.life_rules.specs.declared.event.SourceAt.TheVariants.{Scope, At}
use Rattle.life_rules.specs.Scans.{is_next_in}
use Rattle.life_rules.specs.States.{State, size, is_place, name_of}
use Rattle.life_rules.specs.StopSteps.{source_of}
use Rattle.life_rules.specs.Views.{is_scanning}
use Rattle.node_tree.specs.Tree.{Nearest, TheScope, TheNode, Nowhere, nearest}
use Rattle.step_reasons.specs.Standings.{first_below}

abbrev pub place_of : ℕ → ℕ → Place
place_of b n = record { block = b; node = n }

-- the source on which a callback of the place's node is registered, by its place
abbrev pub source_named : ℕ → Nearest → Option SourceAt
source_named b TheScope = Some Scope
source_named b (TheNode n) = Some (At (place_of b n))
source_named b Nowhere = None

-- the source is the one that is named
abbrev pub at_is : SourceAt → Option SourceAt → Bool
at_is at None = false
at_is Scope (Some Scope) = true
at_is Scope (Some (At q)) = false
at_is (At p) (Some Scope) = false
at_is (At p) (Some (At q)) = p.block == q.block && p.node == q.node

abbrev pub nearest_source : State → Place → Option SourceAt
nearest_source s p = source_named p.block (nearest s.tree p.node)

-- the place of the source is there
abbrev pub is_known : State → SourceAt → Bool
is_known s Scope = true
is_known s (At p) = is_place s p

-- the hand makes a scan of the source
abbrev pub scans : State → ℕ → SourceAt → Bool
scans s h at = is_known s at && is_scanning (s.view h) (source_of s at)

-- the node of the next place of the hand's scan in the block, the number of nodes where there is
-- none
abbrev pub next_node : State → ℕ → SourceAt → ℕ → ℕ
next_node s h at b =
    first_below (λ n. is_next_in s (s.view h) (source_of s at) (name_of s b n)) (size s)

abbrev pub has_next : State → ℕ → SourceAt → ℕ → Bool
has_next s h at b = nat_lt (next_node s h at b) (size s)

-- the block of the next place, the number of blocks where there is none
abbrev pub next_block : State → ℕ → SourceAt → ℕ
next_block s h at = first_below (has_next s h at) s.blocks

-- that place
abbrev pub next_place : State → ℕ → SourceAt → Option Place
next_place s h at =
    let b = next_block s h at in
    if nat_lt b s.blocks then Some (place_of b (next_node s h at b)) else None
