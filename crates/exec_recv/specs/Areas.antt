-- Which words a scan of a stop source's callbacks may move.
use Rattle.std.specs.Prelude.{◌≡◌, ◌⊎◌, ⊤, ℕ, List, ◌++◌}
use Rattle.life_rules.specs.declared.event.Name.{Name}
use Rattle.life_rules.specs.declared.event.SourceRef.{SourceRef}
use Rattle.life_rules.specs.declared.event.SourceRef.TheVariants.{Scope, Node}
use Rattle.listed_words.specs.declared.seen.Seen.{Seen}
use Rattle.plan_shape.specs.Blueprint.{Blueprint}
use Rattle.table_words.specs.Layouts.{Spot, TheScopeSource, OfControl, OfCallback, OfSource, IsSpot, index}
use Rattle.table_rules.specs.Named.{Each}
use Rattle.table_steps.specs.Views.{Board, IsPlaceIn}
use Rattle.table_steps.specs.Seats.{Seated, view_of}
use Rattle.home_items.specs.declared.entry.Entry.{Entry}
use Rattle.home_items.specs.declared.item.Item.{Item}
use Rattle.exec_recv.specs.Since.{IsLook}

-- The word is one of a place of this block.
abbrev pub IsOfBlock : ℕ → Spot → Type 0
IsOfBlock block (OfControl b n) = b ≡ block
IsOfBlock block (OfCallback b n) = b ≡ block
IsOfBlock block (OfSource b n) = b ≡ block
IsOfBlock block spot = ⊥

-- The word is one of a place, or that of the scope's source.
abbrev pub IsOfAny : Spot → Type 0
IsOfAny TheScopeSource = ⊤
IsOfAny (OfControl b n) = ⊤
IsOfAny (OfCallback b n) = ⊤
IsOfAny (OfSource b n) = ⊤
IsOfAny spot = ⊥

-- A scan of a node's source may move the words of places of the node's block; one of the scope's
-- those of any block, and that of the source.
abbrev pub MayMove : SourceRef → Spot → Type 0
MayMove Scope spot = IsOfAny spot
MayMove (Node y) spot = IsOfBlock y.block spot

module _ (board : Board Blueprint) (source : SourceRef) (step : Seen) where
  -- The step is on such a word.
  pub record IsMove : Type 0 where
    pub spot : Spot
    pub is : IsSpot board.frame.layout spot
    pub may : MayMove source spot
    pub index_is : step.index ≡ index board.frame.layout spot

  -- It is, or it left its word as it read it.
  abbrev pub IsWithin : Type 0
  IsWithin = IsLook step ⊎ IsMove

-- The steps made since moved no word but those of places of the block of x, where x is a place of
-- the table.
pub record MovesWithin (board : Board Blueprint) (x : Name) (m m' : Seated Item Entry)
    : Type 0 where
  pub made : List Seen
  pub is : (view_of m').steps ≡ made ++ (view_of m).steps
  pub within : IsPlaceIn board x → Each (IsWithin board (Node x)) made
