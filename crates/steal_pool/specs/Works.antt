-- What a worker's calls tell.
use Rattle.std.specs.Prelude.{◌≡◌, ℕ, ◌<◌, Bool, true, false, length, Option}
use Rattle.atomic_table.specs.declared.shared.Seat.{Seat}
use Rattle.life_rules.specs.declared.event.Resting.TheVariants as rest
use Rattle.node_tree.specs.declared.context.Context.TheVariants.{Pool}
use Rattle.node_tree.specs.Tree.{is_root}
use Rattle.plan_shape.specs.Blueprint.{Blueprint}
use Rattle.table_words.specs.Layouts.{TheScope, index}
use Rattle.table_words.specs.ScopeNumbers.{scope_read}
use Rattle.table_rules.specs.declared.view.View.{View}
use Rattle.table_steps.specs.Views.{Board, IsHandOf, knows}
use Rattle.table_steps.specs.Seats.{Seated}
use Rattle.home_items.specs.declared.entry.Entry.{Entry}
use Rattle.home_items.specs.declared.item.Item.{Item}
use Rattle.exec_recv.specs.Asides.{KeepsAside}
use Rattle.exec_recv.specs.Sites.{Does}
use Rattle.node_walks.specs.Resting.{IsAtRest}
use Rattle.exec_recv.specs.Since.{HasReadSince}
use Rattle.node_walks.specs.Since.{OnlyLooks}
use Rattle.node_walks.specs.Serving.{ServesNode, WasUnready}
use Rattle.steal_pool.specs.declared.working.Worked.{Worked}
use Rattle.steal_pool.specs.declared.working.Worked.TheVariants.{Took, Idle}

-- The hand is one of this table's, and at rest.
pub record IsReady (board : Board Blueprint) (hand : Seat (Option Item) (View Item Entry))
    : Type 0 where
  pub of_table : IsHandOf board hand
  pub rests : IsAtRest (knows hand)

-- Where no name was submitted in the end, none was before, and this holds.
abbrev pub UnlessFound : Bool → Bool → Type 0 → Type 0
UnlessFound before after fact = after ≡ false → (before ≡ false) × fact

module _ (board : Board Blueprint) (m m' : Seated Item Entry) where
  -- each of the first so many nodes of the block was read as not ready in the pool, but the root
  abbrev pub AreIdle : ℕ → ℕ → Type 0
  AreIdle block count =
      (node : ℕ) → node < count → is_root board.frame.tree node ≡ false →
      WasUnready board m m' Pool block node

  -- and so each node of the first so many blocks, but their roots
  abbrev pub AreIdleBelow : ℕ → Type 0
  AreIdleBelow blocks = (block : ℕ) → block < blocks → AreIdle block (length board.frame.tree)

  -- each node of the table was, but the roots
  abbrev pub IsIdle : Type 0
  IsIdle = AreIdleBelow board.frame.layout.blocks

  -- so it was, unless a name was submitted: of one node, of a block, of the table
  abbrev pub FindsNode : ℕ → ℕ → Bool → Bool → Type 0
  FindsNode block node before after =
      UnlessFound before after (WasUnready board m m' Pool block node)

  abbrev pub FindsBlock : ℕ → Bool → Bool → Type 0
  FindsBlock block before after = UnlessFound before after (AreIdle block (length board.frame.tree))

  abbrev pub FindsAny : Bool → Bool → Type 0
  FindsAny before after = UnlessFound before after IsIdle

-- No node was ready, and nothing was done but looks.
pub record FindsNone (board : Board Blueprint) (m m' : Seated Item Entry) : Type 0 where
  pub idle : IsIdle board m m'
  pub looks : OnlyLooks m m'

-- The node was taken and stepped; or no node was ready.
abbrev pub Works : Does → Board Blueprint → Worked → Seated Item Entry → Seated Item Entry → Type 0
Works does board (Took name) m m' = ServesNode does board rest.Pool name m m'
Works does board Idle m m' = FindsNone board m m'

-- So the hand did.
abbrev pub WorksOn : Does → Board Blueprint → Worked → Seat (Option Item) (View Item Entry)
    → Seat (Option Item) (View Item Entry) → Type 0
WorksOn does board worked old new = Works does board worked old.me new.me

-- The word says that the scope is joined.
abbrev pub SaysJoined : ℕ → Type 0
SaysJoined word = (scope_read word).joined ≡ true

-- At last no node was ready, and the scope's word was read, which said that it is joined. Since
-- then nothing was done but looks.
pub record HasEnded (board : Board Blueprint) (m m' : Seated Item Entry) : Type 0 where
  pub before : Seated Item Entry
  pub kept : KeepsAside m before
  pub last : FindsNone board before m'
  pub joined : HasReadSince (index board.frame.layout TheScope) SaysJoined before m'
