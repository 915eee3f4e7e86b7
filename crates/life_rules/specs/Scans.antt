-- The order in which a scan passes the places of a source: rising block, then rising node.
use Rattle.std.specs.Prelude.{ℕ, zero, suc, ◌+◌, ◌-◌, ◌*◌, ◌/◌, ◌%◌, ◌<◌, Bool, true, false, not, ◌&&◌, nat_le, MatchOption}
use Rattle.std.specs.Option.{option_map_or}
use Rattle.life_rules.specs.declared.event.Name.{Name}
use Rattle.life_rules.specs.declared.event.SourceRef.{SourceRef}
use Rattle.life_rules.specs.Views.{View, same_source}
use Rattle.life_rules.specs.States.{State, size, name_of, nearest_of}

-- the number of a place in that order
abbrev pub index : State → Name → ℕ
index s x = x.block * size s + x.node

-- the number after the last
abbrev pub end : State → ℕ
end s = size s * s.blocks

-- the place with that number, at its block's generation
abbrev pub place_at : State → ℕ → Name
place_at s i = name_of s (i / size s) (i % size s)

-- the source is the nearest above x: a callback of x is registered on it
abbrev pub is_nearest : State → SourceRef → Name → Bool
is_nearest s source x = option_map_or (same_source source) (nearest_of s x) false

-- none of the `count` places from number i on is the source's
unfoldable pub has_none : State → SourceRef → ℕ → ℕ → Bool
has_none s source i zero = true
has_none s source i (suc count) =
    not (is_nearest s source (place_at s i)) && has_none s source (suc i) count

-- x is the first place of the source from number i on
abbrev pub is_next : State → SourceRef → ℕ → Name → Bool
is_next s source i x =
    is_nearest s source x && (nat_le i (index s x) && has_none s source i (index s x - i))

-- no place of the source is left from number i on
abbrev pub is_past_all : State → SourceRef → ℕ → Bool
is_past_all s source i = has_none s source i (end s - i)

-- x is the next place of the view's scan
abbrev pub is_next_in : State → View → SourceRef → Name → Bool
is_next_in s v source x = option_map_or (λ i. is_next s source i x) (v.scan source) false

-- the view's scan has passed x
abbrev pub HasPassed : State → View → SourceRef → Name → Type 0
HasPassed s v source x = MatchOption (v.scan source) ⊥ (λ i. index s x < i)
