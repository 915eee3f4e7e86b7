-- What contracts read of a table and of its hands.
use Rattle.std.specs.Prelude.{◌≡◌, ℕ, ◌+◌, ◌<◌, false, List, [], length, Option}
use mathlib.Core.Option.{some}
use lib.ListN.{get_elem?}
use Rattle.node_tree.specs.declared.node.TreeNode.{TreeNode}
use Rattle.node_tree.specs.declared.scope_kind.ScopeKind.{ScopeKind}
use Rattle.life_rules.specs.declared.event.Name.{Name}
use Rattle.atomic_table.specs.Seated.{TableId}
use Rattle.atomic_table.specs.declared.shared.Seat.{Seat}
use Rattle.table_rules.specs.declared.frame.Frame.{Frame}
use Rattle.table_rules.specs.declared.view.View.{View}
use Rattle.table_steps.specs.Slots.{Aim, IsSeated}
use Rattle.table_steps.specs.Seats.{view_of, homes_of}

-- which table it is, and with what it was opened
pub record Board (O : Type 0) : Type 0 where
  pub table_id : TableId
  pub frame : Frame O

-- the hand's view
abbrev pub knows : {P E : Type 0} → Seat (Option P) (View P E) → View P E
knows hand = view_of hand.me

-- the hand is one of this table's, and carries the homes that its view gives it, each once
pub record IsHandOf {P E O : Type 0} (board : Board O)
    (hand : Seat (Option P) (View P E)) : Type 0 where
  pub table_is : hand.table_id ≡ board.table_id
  pub seated : IsSeated board.frame.tree board.frame.layout hand.me

-- the name is of a place of the table
pub record IsPlaceIn {O : Type 0} (board : Board O) (x : Name) : Type 0 where
  pub block : x.block < board.frame.layout.blocks
  pub node : x.node < board.frame.layout.nodes

-- a node of a table with this frame
abbrev pub aimed : {O : Type 0} → Frame O → Name → Aim
aimed f x = record { tree = f.tree; layout = f.layout; name = x }

-- a node of this table
abbrev pub aim_at : {O : Type 0} → Board O → Name → Aim
aim_at board x = aimed board.frame x

-- it is the same hand, after a call
abbrev pub IsSameHand : {P E : Type 0} → Seat (Option P) (View P E) → Seat (Option P) (View P E) →
    Type 0
IsSameHand old new = (new.table_id ≡ old.table_id) × (new.id ≡ old.id)

-- after a call it is the same hand, and one of this table's still
pub record Stays {P E O : Type 0} (board : Board O)
    (old new : Seat (Option P) (View P E)) : Type 0 where
  pub same : IsSameHand old new
  pub hand : IsHandOf board new

-- the table was opened with these
pub record IsOpenedOver {O : Type 0} (board : Board O) (tree : List TreeNode) (over : O)
    (blocks hands : ℕ) (kind : ScopeKind) (most : ℕ) : Type 0 where
  pub tree_is : board.frame.tree ≡ tree
  pub over_is : board.frame.over.value ≡ over
  pub blocks_are : board.frame.layout.blocks ≡ blocks
  pub hands_are : board.frame.hands ≡ hands
  pub kind_is : board.frame.kind ≡ kind
  pub most_is : board.frame.most ≡ most

-- the table of the pair was opened with these
abbrev pub OpensWith : {O H : Type 0} → List TreeNode → O → ℕ → ℕ → ScopeKind → ℕ → Board O × H →
    Type 0
OpensWith tree over blocks hands kind most =
    λ opened. IsOpenedOver opened.0 tree over blocks hands kind most

-- the view of the hand with this number, which has done nothing, and from which so many were split
abbrev pub fresh_with : {P E : Type 0} → ℕ → ℕ → View P E
fresh_with number splits =
    record {
      number = number;
      splits = splits;
      held = [];
      owed = [];
      reported = [];
      finished = [];
      noted = [];
      runs = [];
      scans = [];
      unlooked = [];
      seen_after = [];
      seen = [];
      made = 0;
      making = 0;
      refused = 0;
      requested = false;
      claimed = 0;
      released = 0;
      hands = 1;
      steps = [];
      joined = [];
    }

abbrev pub fresh : {P E : Type 0} → ℕ → View P E
fresh number = fresh_with number 0

abbrev pub split_once : {P E : Type 0} → View P E → View P E
split_once v = record v { splits = v.splits + 1 }

abbrev pub fresh_after : {P E : Type 0} → View P E → View P E
fresh_after v = fresh (v.splits + 1)

-- these are so many hands of the table, in the order of their numbers, which have done nothing
pub record AreFreshHands {P E O : Type 0} (board : Board O) (count : ℕ)
    (all : List (Seat (Option P) (View P E))) : Type 0 where
  pub length_is : length all ≡ count
  pub each : (h : ℕ) (hand : Seat (Option P) (View P E)) → get_elem? all h ≡ some hand →
      IsHandOf board hand × (homes_of hand.me ≡ [])
      × (knows hand ≡ fresh_with h (knows hand).splits)
  pub splits : (hand : Seat (Option P) (View P E)) → get_elem? all 0 ≡ some hand →
      (knows hand).splits + 1 ≡ count
