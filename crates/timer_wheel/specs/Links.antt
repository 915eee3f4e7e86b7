-- Links: rings of nodes, each linked to the one after it and the one before it.
use Rattle.std.specs.Prelude.{◌≡◌, ℕ, ◌+◌, ◌-◌, ◌<◌, ◌≤◌, List, Option, Some, None, length, nat_lt, slice_index, slice_index_or, if◌then◌else◌}
use Rattle.timer_wheel.specs.declared.buckets.TheConstants.{BUCKETS}
use Rattle.timer_wheel.specs.declared.limits.TheConstants.{MOST_PLACES}

-- the bucket of a place, where it stands in one
abbrev pub home_of : List (Option ℕ) → ℕ → Option ℕ
home_of homes place = slice_index_or homes place None

-- the bucket of a node: the nodes are the places and, behind them, a head for each bucket
unfoldable pub node_home : List (Option ℕ) → ℕ → Option ℕ
node_home homes node =
    if nat_lt node (length homes) then home_of homes node
    else (if nat_lt node (length homes + BUCKETS) then Some (node - length homes) else None)

-- ahead of each node stands one of its bucket, which has it behind
abbrev pub AreLinked : (ℕ → ℕ) → (ℕ → ℕ) → (ℕ → Option ℕ) → Type 0
AreLinked ahead behind home =
    (node bucket : ℕ) → home node ≡ Some bucket
    → (home (ahead node) ≡ Some bucket) × (behind (ahead node) ≡ node)

-- ahead of a place stands a node of lower rank, so that each ring has its head in it
abbrev pub Descend : ℕ → (ℕ → ℕ) → (ℕ → Option ℕ) → (ℕ → ℕ) → Type 0
Descend places ahead home rank =
    (node bucket : ℕ) → node < places → home node ≡ Some bucket → rank (ahead node) < rank node

-- what the lists keep: the places of each bucket stand in one ring with its head
pub record AreLists (next prev : List ℕ) (homes : List (Option ℕ)) : Type 0 where
  pub few : length homes ≤ MOST_PLACES
  pub next_length : length next ≡ length homes + BUCKETS
  pub prev_length : length prev ≡ length homes + BUCKETS
  pub forward : AreLinked (slice_index next) (slice_index prev) (node_home homes)
  pub backward : AreLinked (slice_index prev) (slice_index next) (node_home homes)
  pub rank : ℕ → ℕ
  pub descend : Descend (length homes) (slice_index next) (node_home homes) rank
