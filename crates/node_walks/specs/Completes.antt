-- What an operation completes with when its root is ended ([exec.recv]).
use Rattle.std.specs.Prelude.{◌≡◌, ◌≢◌, ◌⊎◌, ℕ, ◌<◌, Bool, true, List, [], ◌∷◌, Some, MatchOption}
use Rattle.exec_value.specs.declared.outcome.Completion.{Completion}
use Rattle.exec_value.specs.declared.outcome.Completion.TheVariants.{NoMemory}
use Rattle.plan_kinds.specs.Small.{IsSmall}
use Rattle.plan_shape.specs.Blueprint.{Blueprint}
use Rattle.table_rules.specs.declared.view.Rooted.{Rooted}
use Rattle.table_steps.specs.declared.block.Block.{Block}
use Rattle.table_steps.specs.Views.{Board}
use Rattle.table_steps.specs.Claims.{root_name}
use Rattle.table_steps.specs.Seats.{Seated, view_of}
use Rattle.table_steps.specs.Slots.{noted_at}
use Rattle.home_items.specs.declared.entry.Entry.{Entry}
use Rattle.home_items.specs.declared.item.Item.{Item}
use Rattle.home_items.specs.Below.{AllowedWith}
use Rattle.home_items.specs.Entries.{plan_of, record_number}
use Rattle.home_items.specs.Fits.{IsItemOf, MayRest}
use Rattle.home_items.specs.Items.{start_in, saw_in, HasCompleted}
use Rattle.home_items.specs.Starts.{IsReceiverStart}
use Rattle.exec_recv.specs.Asides.{aside_of}
use Rattle.node_walks.specs.declared.completing.Collected.{Collected}
use Rattle.node_walks.specs.declared.completing.Ended.{Ended}
use Rattle.node_walks.specs.Emptied.{with_released, MovesAndGivesBack}
use Rattle.node_walks.specs.Leaves.{LeavesAside}

-- The hand has noted the start with which the root of this block began: a start of the receiver
-- node.
pub record IsListed (board : Board Blueprint) (b : Block) (m : Seated Item Entry) : Type 0 where
  pub within : b.index < board.frame.layout.blocks
  pub start : List Entry
  pub noted : noted_at (view_of m) (root_name board b.index b.generation)
      ≡ Some (record { name = root_name board b.index b.generation; start = start })
  pub receiver : IsReceiverStart start

-- The completion is allowed for the child that a start of the receiver node names, with the start's
-- arguments and record number: where the request stood before the start, where one was seen, or
-- where there was none.
abbrev pub AllowedAtTop : List Entry → Bool → Completion → Type 0
AllowedAtTop [] saw completion = ⊥
AllowedAtTop (e ∷ above) saw completion =
    MatchOption e.child ⊥ (λ child. AllowedWith e saw child completion)

-- What an operation with this start may complete with.
abbrev pub MayCollect : List Entry → Bool → Completion → Type 0
MayCollect start saw completion = (completion ≡ NoMemory) ⊎ AllowedAtTop start saw completion

-- The item may lie in the home of a receiver node that rests.
pub record IsOfRoot (item : Item) : Type 0 where
  pub receiver : IsReceiverStart (start_in item)
  pub node : ℕ
  pub of : IsItemOf item node
  pub goes_on : ¬ HasCompleted item
  pub rests : MayRest item node

-- So the operation completes with what the item keeps.
pub record CompletesAs (item : Item) (c : Collected) : Type 0 where
  pub number : c.number ≡ record_number (start_in item)
  pub may : MayCollect (start_in item) c.saw c.completion
  pub small : IsSmall (plan_of (start_in item)) → c.completion ≢ NoMemory
  pub saw : c.saw ≡ true → saw_in item ≡ true

-- What is answered for the start that the hand noted. Where it saw a request, the hand made it.
pub record IsFor (start : List Entry) (requested : Bool) (c : Collected) : Type 0 where
  pub number : c.number ≡ record_number start
  pub may : MayCollect start c.saw c.completion
  pub small : IsSmall (plan_of start) → c.completion ≢ NoMemory
  pub saw : c.saw ≡ true → requested ≡ true

-- So it is for whatever start the hand had noted of the block's root.
abbrev pub IsForNoted : Board Blueprint → Block → Seated Item Entry → Collected → Type 0
IsForNoted board b m c =
    (e : Rooted Entry) → noted_at (view_of m) (root_name board b.index b.generation) ≡ Some e
    → IsFor e.start (view_of m).requested c

-- The environment shows whatever start the hand had noted of the block's root.
abbrev pub ShowsNoted : Board Blueprint → Block → Seated Item Entry → List Entry → Type 0
ShowsNoted board b m env =
    (e : Rooted Entry) → noted_at (view_of m) (root_name board b.index b.generation) ≡ Some e
    → env ≡ e.start

-- So the operation of the block's root completed: the environment is that of its start, a start of
-- the receiver node of the table's plan.
pub record CompletesNoted (board : Board Blueprint) (b : Block) (m : Seated Item Entry)
    (ended : Ended) : Type 0 where
  pub shows : ShowsNoted board b m ended.env
  pub receiver : IsReceiverStart ended.env
  pub key : plan_of ended.env ≡ board.frame.over.value
  pub is_for : IsForNoted board b m ended.collected

-- And the block was given back. Beside its words none was moved.
pub record EndsRoot (board : Board Blueprint) (b : Block) (m m' : Seated Item Entry)
    (ended : Ended) : Type 0 where
  pub completes : CompletesNoted board b m ended
  pub moves : MovesAndGivesBack board b m m'
  pub leaves : LeavesAside
      (with_released (root_name board b.index b.generation) (aside_of (view_of m))) m m'
