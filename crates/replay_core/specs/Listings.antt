-- How candidates are listed.
use Rattle.std.specs.Prelude.{◌≡◌, ℕ, ◌<◌, ◌++◌, Bool, true, false, List, filter, Option, Some, None}
use Rattle.std.specs.Option.{option_map_or}
use Rattle.life_rules.specs.declared.event.Event.{Event}
use Rattle.life_rules.specs.declared.event.Place.{Place}
use Rattle.life_rules.specs.declared.event.SourceAt.{SourceAt}
use Rattle.life_rules.specs.declared.event.SourceAt.TheVariants.{Scope, At}
use Rattle.life_rules.specs.States.{State, is_place}
use Rattle.life_rules.specs.Steps.{may_happen}
use Rattle.life_rules.specs.StopSteps.{may_look}
use Rattle.node_tree.specs.Tree.{Nearest, TheScope, TheNode, Nowhere, nearest}
use Rattle.replay_core.specs.Candidates.{place_of, places_of, sources_of}

-- of these events, those that are steps of the hand were added
pub record Keeps (s : State) (h : ℕ) (old new events : List Event) : Type 0 where
  pub added : new ≡ old ++ filter (may_happen s h) events

-- the nearest source of a place, by its place
abbrev pub source_named : Place → Nearest → Option SourceAt
source_named p TheScope = Some Scope
source_named p (TheNode n) = Some (At (place_of p.block n))
source_named p Nowhere = None

abbrev pub nearest_source : State → Place → Option SourceAt
nearest_source s p = source_named p (nearest s.tree p.node)

-- the hand may look at the place's nearest source, after its arming
abbrev pub is_waiting : State → ℕ → Place → Bool
is_waiting s h p = option_map_or (λ source. may_look s h source (Some p)) (nearest_source s p) false

-- the place of the source is there
abbrev pub is_known : State → SourceAt → Bool
is_known s Scope = true
is_known s (At p) = is_place s p

-- the hand is one of the state's, and these are all its places and sources
pub record IsListing (s : State) (hand : ℕ) (places : List Place)
    (sources : List SourceAt) : Type 0 where
  pub hand_is : hand < s.hands
  pub places_are : places ≡ places_of s
  pub sources_are : sources ≡ sources_of s
