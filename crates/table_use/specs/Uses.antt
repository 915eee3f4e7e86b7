-- What a hand has at each point of an operation.
use Rattle.std.specs.Prelude.{◌≡◌, ℕ, ◌<◌, ◌≤◌, true, false, List, [], ◌∷◌, Option, Some, None}
use Rattle.node_tree.specs.declared.node.TreeNode.{TreeNode}
use Rattle.life_rules.specs.declared.words.ControlWord.TheVariants.{Done as IsDone}
use Rattle.life_rules.specs.declared.event.Name.{Name}
use Rattle.life_rules.specs.Views.{beside}
use Rattle.table_words.specs.Layouts.{OfControl, index}
use Rattle.listed_words.specs.declared.seen.Seen.{Seen}
use Rattle.listed_words.specs.Lists.{entry}
use Rattle.table_rules.specs.declared.frame.Frame.{Frame}
use Rattle.table_rules.specs.declared.view.Held.{Held}
use Rattle.table_rules.specs.declared.view.Reported.{Reported}
use Rattle.atomic_table.specs.declared.shared.Seat.{Seat}
use Rattle.table_rules.specs.declared.cargo.Cargo.{Ghosts}
use Rattle.table_rules.specs.declared.view.View.{View}
use Rattle.table_rules.specs.Named.{find_by}
use Rattle.table_steps.specs.Views.{Board}
use Rattle.table_steps.specs.declared.block.Block.{Block}
use Rattle.table_steps.specs.Claims.{root_name}
use Rattle.table_steps.specs.Seats.{Seated, homes_of, view_of}
use Rattle.table_steps.specs.Lefts.{SaysControl}
use Rattle.table_steps.specs.Steps.{LeftAllEmpty}
use Rattle.op_slot.specs.Tends.{KeepsOwed, OwesReport, Owes, Tends}
use Rattle.table_use.specs.declared.cargo.Entry.{Entry}
use Rattle.table_use.specs.declared.cargo.Env.{Env}
use Rattle.table_use.specs.declared.cargo.Item.{Item}
use Rattle.table_use.specs.declared.cargo.Item.TheVariants.{Going, Failed}
use Rattle.table_use.specs.Starts.{path, above_of, done_at}

-- a leaf and a branch below a root, and a twig below the branch. The root and the branch have stop
-- sources
abbrev pub use_tree : List TreeNode
use_tree =
    record { parent = Some 3; source = false; unstoppable = false }
    ∷ record { parent = Some 2; source = false; unstoppable = false }
    ∷ record { parent = Some 3; source = true; unstoppable = false }
    ∷ record { parent = None; source = true; unstoppable = false } ∷ []

-- the name is of a node of a table over that tree
pub record IsNode {O : Type 0} (board : Board O) (x : Name) : Type 0 where
  pub tree : board.frame.tree ≡ use_tree
  pub block : x.block < board.frame.layout.blocks
  pub wide : 3 < board.frame.layout.nodes
  pub node : x.node < 4

-- and of a root
pub record IsRoot {O : Type 0} (board : Board O) (x : Name) : Type 0 where
  pub is_node : IsNode board x
  pub three : x.node ≡ 3

-- it is the root of this block
pub record IsRootOf {O : Type 0} (board : Board O) (b : Block) (x : Name) : Type 0 where
  pub is_root : IsRoot board x
  pub within : b.index < board.frame.layout.blocks
  pub name : x ≡ root_name board b.index b.generation

-- the index of the node's control word
abbrev pub control_at : Frame ℕ → Name → ℕ
control_at f x = index f.layout (OfControl x.block x.node)

-- the hand owes the node's report, which ended so
pub record HasEnded (x : Name) (item : Item) (m : Seated Item Entry) : Type 0 where
  pub entry : Reported Item Entry
  pub owes : OwesReport x entry m
  pub item_is : entry.item ≡ item

module _ (f : Frame ℕ) (x : Name) where
  -- the env is that of the node, in this table
  pub record IsEnv (env : Env) : Type 0 where
    pub node : env.node ≡ x.node
    pub step : env.step ≡ f.over.value

  -- the hand owes the node's start, by the start of its parent, and the node's home is empty
  pub record OwesNode (env : Env) (m : Seated Item Entry) : Type 0 where
    pub is : IsEnv env
    pub owes : Owes f x (record { name = x; above = above_of env x.node; lot = [] }) None m

  -- the hand holds the node with this start, which goes on, and the homes of its children are empty
  pub record HoldsNode (env : Env) (m : Seated Item Entry) : Type 0 where
    pub is : IsEnv env
    pub held : Held Entry
    pub start : held.start ≡ path env
    pub tends : Tends f x held (Some (Going env)) (λ _. None) m

  -- with some start
  abbrev pub HoldsGoing : Seated Item Entry → Type 0
  HoldsGoing m = (env : Env) × HoldsNode env m

  -- with the start with which it held it
  abbrev pub StillHolds : Seated Item Entry → Seated Item Entry → Type 0
  StillHolds m m' = (env : Env) → HoldsNode env m → HoldsNode env m'

  -- the hand owes the node's report, which ended so, and its newest step left the node done
  pub record JustEnded (item : Item) (m : Seated Item Entry) : Type 0 where
    pub has : HasEnded x item m
    pub read : ℕ
    pub left : ℕ
    pub earlier : List Seen
    pub steps_are : (view_of m).steps ≡ entry (control_at f x) read left ∷ earlier
    pub done : SaysControl x IsDone left

  -- the hand holds the node, which has this start, after the report of this child, which ended so.
  -- What the table says of the item in the node's home and of those of other children is enough to
  -- go on
  pub record HoldsLast (env : Env) (n : ℕ) (ended : Item) (m : Seated Item Entry) : Type 0 where
    pub is : IsEnv env
    pub held : Held Entry
    pub start : held.start ≡ path env
    pub named : 1 ≤ held.named
    pub own : Item
    pub content : ℕ → Option Item
    pub tends : Tends f x held (Some own) content m
    pub child : content n ≡ Some ended

-- so the hand holds a root, after the report of its leaf, which ended with what the start says
abbrev pub HoldsDone : Frame ℕ → Name → Env → Seated Item Entry → Type 0
HoldsDone f x env m = HoldsLast f x env 0 (done_at env 0) m

-- the hand owes the node's child of this number, in the same operation
abbrev pub OwesKid : Frame ℕ → Name → ℕ → Env → Seated Item Entry → Type 0
OwesKid f x n env m = OwesNode f (beside x n) (record env { node = n }) m

-- the hand owes the report of the root's leaf, which failed as it was to
pub record LeafFailed (root : Name) (m : Seated Item Entry) : Type 0 where
  pub env : Env
  pub zero : env.node ≡ 0
  pub has : HasEnded (beside root 0) (Failed env) m

-- the root began with the start of this env
abbrev pub HasNoted : Name → Env → Seated Item Entry → Type 0
HasNoted x env m =
    find_by (λ e. e.name) (view_of m).noted x ≡ Some (record { name = x; start = path env })

-- the number is the one for which the root began
abbrev pub IsNotedNumber : Name → Seated Item Entry → ℕ → Type 0
IsNotedNumber x m number = (env : Env) → HasNoted x env m → number ≡ env.number

-- the hand's newest step gave this block back, and left all its homes empty
abbrev pub LeftBlockEmpty : Board ℕ → Block → Seat (Option Item) (View Item Entry) →
    Ghosts Item Entry ℕ → Type 0
LeftBlockEmpty board b hand cargo = LeftAllEmpty board b.index b.generation hand cargo

-- the hand's newest step gave a block of the table back, and left all its homes empty
abbrev pub HasEmptied : Board ℕ → Seat (Option Item) (View Item Entry) → Ghosts Item Entry ℕ →
    Type 0
HasEmptied board hand cargo =
    (b : Block) × (b.index < board.frame.layout.blocks) × LeftBlockEmpty board b hand cargo

module _ (m : Seated Item Entry) where
  -- the hand runs no callback, and makes no scan
  pub record IsIdle : Type 0 where
    pub runs : (view_of m).runs ≡ []
    pub scans : (view_of m).scans ≡ []

module _ (m m' : Seated Item Entry) where
  -- the hand runs the callbacks that it ran, and makes the scans that it made
  pub record KeepsPlays : Type 0 where
    pub runs : (view_of m').runs ≡ (view_of m).runs
    pub scans : (view_of m').scans ≡ (view_of m).scans

  -- it holds the nodes that it held, and what lies in its homes still lies there
  pub record KeepsHoldings : Type 0 where
    pub held : (view_of m').held ≡ (view_of m).held
    pub slots : homes_of m' ≡ homes_of m
    pub number : (view_of m').number ≡ (view_of m).number

  -- it owes the reports that it owed
  abbrev pub KeepsReports : Type 0
  KeepsReports = (view_of m').reported ≡ (view_of m).reported

  -- both
  pub record IsStill : Type 0 where
    pub plays : KeepsPlays
    pub reports : KeepsReports

  -- it has noted what it had of roots, and no more
  abbrev pub KeepsNotes : Type 0
  KeepsNotes = (view_of m').noted ≡ (view_of m).noted

-- what it owes besides a leaf it still owes
abbrev pub KeepsBesideLeaf : Frame ℕ → Name → Seated Item Entry → Seated Item Entry → Type 0
KeepsBesideLeaf f x m m' = x.node < 2 → KeepsOwed f x m m'
