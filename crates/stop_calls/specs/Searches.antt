-- How a scan's next place is found, and its block met.
use Rattle.std.specs.Prelude.{◌≡◌, ◌⊎◌, ℕ, ◌+◌, ◌*◌, ◌<◌, ◌≤◌, Bool, true, false, not, ◌==◌, List, length, Option, Some, None, MatchOption}
use Rattle.node_tree.specs.declared.node.TreeNode.{TreeNode}
use Rattle.node_tree.specs.declared.node.TheConstants.{MOST_NODES}
use Rattle.life_rules.specs.declared.event.Place.{Place}
use Rattle.life_rules.specs.declared.event.SourceRef.{SourceRef}
use Rattle.life_rules.specs.declared.event.SourceRef.TheVariants.{Scope, Node}
use Rattle.atomic_table.specs.declared.shared.Seat.{Seat}
use Rattle.table_rules.specs.declared.view.View.{View}
use Rattle.table_steps.specs.Views.{Board}
use Rattle.table_steps.specs.Skips.{CanSkip}
use Rattle.table_steps.specs.ScanOrders.{hears}
use Rattle.stop_calls.specs.declared.scanning.Scan.{Scan}
use Rattle.stop_calls.specs.Cursors.{cursor, NoneBetween}
use Rattle.stop_calls.specs.Walks.{MayTry, PassesBlock, EntersBlock}

-- some place of the block may hear the source
abbrev pub may_hear : SourceRef → ℕ → Bool
may_hear Scope block = true
may_hear (Node y) block = block == y.block

module _ (tree : List TreeNode) (source : SourceRef) (block from : ℕ) where
  -- no node of the block from there on and below this one hears the source
  abbrev pub NoneInBlock : ℕ → Type 0
  NoneInBlock to = (n : ℕ) → from ≤ n → n < to → hears tree source block n ≡ false

  -- this is the first of the block, from there on, that hears the source
  pub record IsFirstIn (node : ℕ) : Type 0 where
    pub within : node < length tree
    pub small : node < MOST_NODES
    pub reached : from ≤ node
    pub hears : hears tree source block node ≡ true
    pub before : NoneInBlock node

  abbrev pub IsHeardIn : Option ℕ → Type 0
  IsHeardIn answer = MatchOption answer (NoneInBlock (length tree)) IsFirstIn

module _ (tree : List TreeNode) (blocks : ℕ) (scan : Scan) where
  -- no place from the scan's cursor on hears its source
  abbrev pub NoneLeft : Type 0
  NoneLeft = NoneBetween tree scan.source (cursor tree scan) (length tree * blocks)

  -- this is the first place from the cursor on that hears its source
  pub record IsNextFrom (place : Place) : Type 0 where
    pub block : place.block < blocks
    pub node : place.node < length tree
    pub small : place.node < MOST_NODES
    pub hears : hears tree scan.source place.block place.node ≡ true
    pub reached : cursor tree scan ≤ place.block * length tree + place.node
    pub before : NoneBetween tree scan.source (cursor tree scan)
        (place.block * length tree + place.node)

  abbrev pub IsNextPlace : Option Place → Type 0
  IsNextPlace answer = MatchOption answer NoneLeft IsNextFrom

-- a scan of the scope's source reads a block's word once in a call, before it looks at the block's
-- places
abbrev pub must_read : SourceRef → Option ℕ → ℕ → Bool
must_read Scope None block = true
must_read Scope (Some other) block = not (other == block)
must_read (Node y) read block = false

-- where the scan is of the scope's source, its next place lies in this block
abbrev pub CanEnter : {P E : Type 0} → List TreeNode → SourceRef → View P E → ℕ → Type 0
CanEnter tree source v block = source ≡ Scope → CanSkip tree v block

module _ {P E O : Type 0} (board : Board O) (source : SourceRef) (block : ℕ) (read read' : Option ℕ)
    (old new : Seat (Option P) (View P E)) where
  -- the call may look at the block's places already
  pub record IsEntered : Type 0 where
    pub same : new ≡ old
    pub read_is : read' ≡ read
    pub may : MayTry source read block

  -- it may so now, by a load of the block's word
  pub record Enters : Type 0 where
    pub enters : EntersBlock board source read read' old new block
    pub may : MayTry source read' block

  -- true where the block was read as free, and its places are passed; false where the call may look
  -- at them
  abbrev pub IsBlockMet : Bool → Type 0
  IsBlockMet true = PassesBlock board source read read' old new block
  IsBlockMet false = IsEntered ⊎ Enters
