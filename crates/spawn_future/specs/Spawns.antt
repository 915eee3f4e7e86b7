-- What `spawn` answers (P3149, spawn_future).
use Rattle.std.specs.Prelude.{◌≡◌, ℕ, false, List, Option, Some, Ok, Err, slice_set}
use Rattle.atomic_table.specs.declared.shared.Seat.{Seat}
use Rattle.count_scope.specs.declared.members.Association.{Association}
use Rattle.count_scope.specs.Associations.{Associates}
use Rattle.count_scope.specs.Leaves.{disassociated, Leaves}
use Rattle.life_rules.specs.declared.event.Name.{Name}
use Rattle.life_rules.specs.declared.scope.Refused.{Refused}
use Rattle.plan_shape.specs.Blueprint.{Blueprint}
use Rattle.table_rules.specs.declared.view.View.{View}
use Rattle.table_steps.specs.declared.block.Block.{Block}
use Rattle.table_steps.specs.Views.{Board, knows}
use Rattle.home_items.specs.declared.entry.Entry.{Entry}
use Rattle.home_items.specs.declared.item.Item.{Item}
use Rattle.exec_recv.specs.Asides.{aside_of}
use Rattle.node_walks.specs.declared.mail.ReadyNode.{ReadyNode}
use Rattle.node_walks.specs.Leaves.{LeavesAside}
use Rattle.node_walks.specs.Starts.{GoesOnWith, MissesEach}
use Rattle.node_walks.specs.Walks.{Anything}
use Rattle.spawn_future.specs.declared.future.Future.{Future}
use Rattle.spawn_future.specs.declared.spawning.SpawnFault.{SpawnFault}
use Rattle.spawn_future.specs.declared.spawning.SpawnFault.TheVariants.{Full, Scope, NoBlock}
use Rattle.spawn_future.specs.Keeping.{Enters}
use Rattle.spawn_future.specs.Slots.{HasRoom, IsFree, IsFull}

-- An association was made, and then the operation begun in the block, and the hand went on with it.
-- It did nothing else.
pub record OnlyEnters (board : Board Blueprint) (b : Block) (start : List Entry)
    (old new : Seat (Option Item) (View Item Entry)) : Type 0 where
  pub association : Association
  pub entered : Seat (Option Item) (View Item Entry)
  pub made : Associates board.frame.most (Ok association) old.me entered.me
  pub ready : List ReadyNode
  pub goes : GoesOnWith Anything board 0 b start entered new.me ready

-- The owner's operation was begun with this start, and is kept in a slot that was free.
pub record Spawns (board : Board Blueprint) (owner : Name) (start : List Entry)
    (old new : List (Option Future)) (m m' : Seat (Option Item) (View Item Entry)) : Type 0 where
  pub slot : ℕ
  pub free : IsFree old slot
  pub future : Future
  pub owner_is : future.owner ≡ owner
  pub waited : future.abandoned ≡ false
  pub slots : new ≡ slice_set old slot (Some future)
  pub enters : Enters board future.block start m.me m'.me
  pub only : OnlyEnters board future.block start m m'

-- By the word that it read the scope took no association, for this cause.
pub record IsTurnedAway (board : Board Blueprint) (cause : Refused)
    (old new : Seat (Option Item) (View Item Entry)) : Type 0 where
  pub refused : Associates board.frame.most (Err cause) old.me new.me
  pub same : LeavesAside (aside_of (knows old)) old.me new.me

-- An association was made. No block was free: each was missed at its own step. Then the association
-- was left.
pub record FindsNone (board : Board Blueprint) (old new : Seat (Option Item) (View Item Entry))
    : Type 0 where
  pub association : Association
  pub entered : Seat (Option Item) (View Item Entry)
  pub made : Associates board.frame.most (Ok association) old.me entered.me
  pub searched : Seat (Option Item) (View Item Entry)
  pub missed : MissesEach board 0 entered searched
  pub left : Leaves (disassociated searched.me) new.me
  pub same : LeavesAside (aside_of (knows old)) old.me new.me

-- The environment comes back, and this is why.
pub record ComesBack (start back : List Entry) (cause : Type 0) : Type 0 where
  pub back_is : back ≡ start
  pub because : cause

-- Nothing was begun, by what the scope or the table said.
abbrev pub IsKeptOut : Board Blueprint → List Entry → Seat (Option Item) (View Item Entry)
    → Seat (Option Item) (View Item Entry) → SpawnFault → Type 0
IsKeptOut board start old new (Full back) = ⊥
IsKeptOut board start old new (Scope back cause) =
    ComesBack start back (IsTurnedAway board cause old new)
IsKeptOut board start old new (NoBlock back) = ComesBack start back (FindsNone board old new)

-- Or each slot was taken, and no step was made. Else a slot was free.
abbrev pub Refuses : Board Blueprint → List Entry → List (Option Future)
    → Seat (Option Item) (View Item Entry) → Seat (Option Item) (View Item Entry) → SpawnFault
    → Type 0
Refuses board start slots old new (Full back) =
    ComesBack start back (IsFull slots × (new ≡ old))
Refuses board start slots old new (Scope back cause) =
    HasRoom slots × IsKeptOut board start old new (Scope back cause)
Refuses board start slots old new (NoBlock back) =
    HasRoom slots × IsKeptOut board start old new (NoBlock back)
