-- A set of names of a table's places, those of one block at one generation.
use Rattle.std.specs.Prelude.{◌≡◌, ℕ, ◌+◌, ◌*◌, ◌/◌, ◌%◌, ◌<◌, ◌≤◌, Bool, true, false, ◌&&◌, ◌==◌, nat_lt, List, length, slice_index}
use Rattle.std.specs.Int.{bit_at}
use Rattle.node_tree.specs.declared.node.TheConstants.{MOST_NODES}
use Rattle.life_rules.specs.declared.limits.TheConstants.{MOST_BLOCKS}
use Rattle.life_rules.specs.declared.event.Name.{Name}
use Rattle.table_words.specs.declared.layout.Layout.{Layout}
use Rattle.table_words.specs.Layouts.{place_number, places_in}

-- which places are marked, a bit for each, and at which generation the names of each block are
pub record Marks : Type 0 where
  pub layout : Layout
  pub bits : List ℕ
  pub generations : List ℕ

-- the place with this number is marked
abbrev pub is_marked : List ℕ → ℕ → Bool
is_marked bits k = bit_at (slice_index bits (k / 64)) (k % 64) == 1

abbrev pub is_place_of : Layout → Name → Bool
is_place_of l x = nat_lt x.block l.blocks && nat_lt x.node l.nodes

-- the set has the name: its place is marked, and its generation is that of the block's names
abbrev pub has : Marks → Name → Bool
has m x =
    is_place_of m.layout x
    && (is_marked m.bits (place_number m.layout x.block x.node)
    && slice_index m.generations x.block == x.generation)

-- there is a bit for each place, and a generation for each block
pub record IsSized (l : Layout) (words stamps : List ℕ) : Type 0 where
  pub blocks : l.blocks ≤ MOST_BLOCKS
  pub nodes : (1 ≤ l.nodes) × (l.nodes ≤ MOST_NODES)
  pub bits : length words ≡ places_in l / 64 + 1
  pub generations : length stamps ≡ l.blocks

-- the name is of a place of the table
pub record IsPlaceOf (l : Layout) (x : Name) : Type 0 where
  pub block : x.block < l.blocks
  pub node : x.node < l.nodes

-- the names that the set has of this name's block are of its generation
abbrev pub IsOfItsBlock : Marks → Name → Type 0
IsOfItsBlock m x = (y : Name) → has m y ≡ true → y.block ≡ x.block → y.generation ≡ x.generation

abbrev pub IsEmpty : Marks → Type 0
IsEmpty m = (x : Name) → has m x ≡ false

-- the set has the name, and none of a lower place
pub record IsLowest (m : Marks) (x : Name) : Type 0 where
  pub found : has m x ≡ true
  pub lowest : (y : Name) → has m y ≡ true →
      place_number m.layout x.block x.node ≤ place_number m.layout y.block y.node

-- no place below this number is marked
abbrev pub NoneBelow : List ℕ → ℕ → Type 0
NoneBelow bits n = (k : ℕ) → k < n → is_marked bits k ≡ false

-- no place is marked but in the words from the one number on and below the other
pub record IsWithin (bits : List ℕ) (low high : ℕ) : Type 0 where
  pub order : low ≤ high
  pub most : high ≤ length bits
  pub below : NoneBelow bits (64 * low)
  pub above : (k : ℕ) → 64 * high ≤ k → is_marked bits k ≡ false

-- there is room for all places, and none is marked outside of these words
pub record IsKept (l : Layout) (words stamps : List ℕ) (low high : ℕ) : Type 0 where
  pub sized : IsSized l words stamps
  pub within : IsWithin words low high

-- this place is the first that is marked
pub record IsFirst (bits : List ℕ) (place : ℕ) : Type 0 where
  pub marked : is_marked bits place ≡ true
  pub before : NoneBelow bits place
