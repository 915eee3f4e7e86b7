-- Where the words of a table lie: the scope's two, and then those of each block together: its own,
-- and four of each place, for control, for callback and for source, and one that is left free, so
-- that a place's words follow from its number. Before the word of each block, and behind each of
-- the scope's, 15 are left free, so that hands on two blocks share no cache line. Homes are
-- numbered as places are.
use Rattle.std.specs.Prelude.{ℕ, ◌+◌, ◌*◌, ◌<◌}
use Rattle.table_words.specs.declared.layout.Layout.{Layout}

-- which word it is
pub data Spot : Type 0 where
  TheScope : Spot
  TheScopeSource : Spot
  OfBlock : ℕ → Spot
  OfControl : ℕ → ℕ → Spot
  OfCallback : ℕ → ℕ → Spot
  OfSource : ℕ → ℕ → Spot

-- the table has this word
abbrev pub IsSpot : Layout → Spot → Type 0
IsSpot l TheScope = Unit {0}
IsSpot l TheScopeSource = Unit {0}
IsSpot l (OfBlock b) = b < l.blocks
IsSpot l (OfControl b n) = (b < l.blocks) × (n < l.nodes)
IsSpot l (OfCallback b n) = (b < l.blocks) × (n < l.nodes)
IsSpot l (OfSource b n) = (b < l.blocks) × (n < l.nodes)

-- the number of places
abbrev pub places_in : Layout → ℕ
places_in l = l.blocks * l.nodes

-- how many words lie from one block's to the next one's: 15 free ones, its own, and four of each
-- place
abbrev pub block_words : Layout → ℕ
block_words l = 4 * l.nodes + 16

-- the number of words
abbrev pub words_in : Layout → ℕ
words_in l = 32 + l.blocks * block_words l

-- the number of a place: rising block, then rising node
abbrev pub place_number : Layout → ℕ → ℕ → ℕ
place_number l b n = b * l.nodes + n

-- the word of a block that has so many of its words before it
abbrev pub word_of_block : Layout → ℕ → ℕ → ℕ
word_of_block l b before = 32 + (b * block_words l + before)

abbrev pub index : Layout → Spot → ℕ
index l TheScope = 0
index l TheScopeSource = 16
index l (OfBlock b) = word_of_block l b 15
index l (OfControl b n) = word_of_block l b (16 + 4 * n)
index l (OfCallback b n) = word_of_block l b (17 + 4 * n)
index l (OfSource b n) = word_of_block l b (18 + 4 * n)
