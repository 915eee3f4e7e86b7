-- How a root that rests in the loop is ended.
use Rattle.std.specs.Prelude.{◌≡◌, ◌≢◌, ℕ, ◌+◌, Bool, true, [], ◌∷◌, Some, None, MatchOption}
use Rattle.life_rules.specs.declared.event.Name.{Name}
use Rattle.life_rules.specs.declared.event.Resting.TheVariants as rest
use Rattle.life_rules.specs.declared.event.SourceRef.TheVariants.{Scope}
use Rattle.life_rules.specs.States.{source_for}
use Rattle.listed_words.specs.Lists.{entry}
use Rattle.node_tree.specs.Tree.{is_root, nearest}
use Rattle.plan_shape.specs.Blueprint.{Blueprint}
use Rattle.table_rules.specs.declared.view.Held.{Held}
use Rattle.table_rules.specs.declared.view.Rooted.{Rooted}
use Rattle.table_rules.specs.Named.{without}
use Rattle.table_steps.specs.declared.block.Block.{Block}
use Rattle.table_steps.specs.Views.{Board}
use Rattle.table_steps.specs.Claims.{root_name, logged, word_index}
use Rattle.table_steps.specs.Seats.{Seated, homes_of, view_of}
use Rattle.table_steps.specs.Finishes.{is_settled}
use Rattle.table_steps.specs.Slots.{noted_at}
use Rattle.table_steps.specs.Steps.{control_index}
use Rattle.table_steps.specs.Takes.{rest_word}
use Rattle.op_slot.specs.Tends.{HasPlaces, Tends}
use Rattle.home_items.specs.declared.entry.Entry.{Entry}
use Rattle.home_items.specs.declared.item.Item.{Item}
use Rattle.home_items.specs.Items.{start_in, HasCompleted}
use Rattle.home_items.specs.Entries.{plan_of}
use Rattle.home_items.specs.Fits.{FitsHome, MayRest}
use Rattle.exec_recv.specs.Areas.{MovesWithin}
use Rattle.exec_recv.specs.Asides.{Aside, aside_of, KeepsAside}
use Rattle.node_walks.specs.Resting.{IsAtRest}
use Rattle.node_walks.specs.Leaves.{LeavesAside}

-- The hand holds the root and nothing besides, and all homes that it has with it are empty. The
-- root hears the scope's source.
pub record HasEmptyRoot (board : Board Blueprint) (x : Name) (m : Seated Item Entry) : Type 0 where
  pub first : (view_of m).number ≡ 0
  pub root : is_root board.frame.tree x.node ≡ true
  pub hears : source_for x (nearest board.frame.tree x.node) ≡ Some Scope
  pub places : HasPlaces board.frame x
  pub runs : (view_of m).runs ≡ []
  pub scans : (view_of m).scans ≡ []
  pub held : Held Entry
  pub tends : Tends board.frame x held None (λ _. None) m
  pub alone : (view_of m).held ≡ held ∷ []

-- And it has read that the root's callback never was registered, or is over.
pub record IsSettledRoot (board : Board Blueprint) (x : Name) (m : Seated Item Entry) : Type 0 where
  pub empty : HasEmptyRoot board x m
  pub settled : MatchOption empty.held.phase ⊥ (λ phase. is_settled phase ≡ true)

-- the root of this block
abbrev pub IsSettledIn : Board Blueprint → Block → Seated Item Entry → Type 0
IsSettledIn board b m = IsSettledRoot board (root_name board b.index b.generation) m

-- So it is after a call that left all else as it was.
pub record SettlesRoot (board : Board Blueprint) (x : Name)
    (m m' : Seated Item Entry) : Type 0 where
  pub keeps : KeepsAside m m'
  pub moves : MovesWithin board x m m'
  pub owed : (view_of m').owed ≡ (view_of m).owed
  pub is : IsSettledRoot board x m'

-- One block more was given back, and the start of its root is noted no more.
abbrev pub with_released : Name → Aside → Aside
with_released root aside =
    record aside {
      noted = without (λ (e : Rooted Entry). e.name) aside.noted root;
      released = aside.released + 1;
    }

-- The item lay in the home of the block's root, which rested in the loop with it. Told is whether a
-- stop was requested of the scope.
pub record LayAtRoot (board : Board Blueprint) (root : Name) (m : Seated Item Entry)
    (item : Item) : Type 0 where
  pub told : Bool
  pub asked : told ≡ (view_of m).requested
  pub fit : FitsHome item root.node told
  pub goes_on : ¬ HasCompleted item
  pub rests : MayRest item root.node
  pub key : plan_of (start_in item) ≡ board.frame.over.value
  pub noted : (e : Rooted Entry) → noted_at (view_of m) root ≡ Some e → start_in item ≡ e.start

-- The item was taken out of the home of the block's root, where it lay so. All else is as it was.
pub record IsOut (board : Board Blueprint) (b : Block) (m m' : Seated Item Entry)
    (item : Item) : Type 0 where
  pub lay : LayAtRoot board (root_name board b.index b.generation) m item
  pub empty : HasEmptyRoot board (root_name board b.index b.generation) m'
  pub owed : (view_of m').owed ≡ []
  pub keeps : KeepsAside m m'
  pub moves : MovesWithin board (root_name board b.index b.generation) m m'

-- Only words of places of the block were moved, and last the block's own, by which it was given
-- back.
pub record MovesAndGivesBack (board : Board Blueprint) (b : Block) (m m' : Seated Item Entry)
    : Type 0 where
  pub before : Seated Item Entry
  pub moves : MovesWithin board (root_name board b.index b.generation) m before
  pub read : ℕ
  pub left : ℕ
  pub gave : (view_of m').steps ≡ entry (word_index board b.index) read left ∷ before.0.steps

-- The root was finished, and the block given back.
pub record IsGivenBack (board : Board Blueprint) (b : Block)
    (m m' : Seated Item Entry) : Type 0 where
  pub held : (view_of m').held ≡ []
  pub owed : (view_of m').owed ≡ (view_of m).owed
  pub moves : MovesAndGivesBack board b m m'
  pub leaves : LeavesAside
      (with_released (root_name board b.index b.generation) (aside_of (view_of m))) m m'

-- The item lay there so, and the block was given back.
pub record IsRootEmptied (board : Board Blueprint) (b : Block) (m m' : Seated Item Entry)
    (item : Item) : Type 0 where
  pub lay : LayAtRoot board (root_name board b.index b.generation) m item
  pub rests : IsAtRest (view_of m')
  pub moves : MovesAndGivesBack board b m m'
  pub leaves : LeavesAside
      (with_released (root_name board b.index b.generation) (aside_of (view_of m))) m m'

-- The root's word that was read didn't say that it is ready in the loop, and nothing changed.
pub record WasNotReady (board : Board Blueprint) (b : Block)
    (m m' : Seated Item Entry) : Type 0 where
  pub word : ℕ
  pub differs : word ≢ rest_word (root_name board b.index b.generation) rest.Loop
  pub is : m' ≡ (
    logged (control_index board (root_name board b.index b.generation)) word (view_of m),
    homes_of m,
  )
