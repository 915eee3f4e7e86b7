-- Where a step leaves its node.
use Rattle.std.specs.Prelude.{◌≡◌, ◌⊎◌, ℕ, true, List, ◌∷◌}
use Rattle.life_rules.specs.declared.event.Name.{Name}
use Rattle.life_rules.specs.Views.{beside}
use Rattle.life_rules.specs.Words.{resting_at}
use Rattle.life_rules.specs.declared.event.Resting.{Resting}
use Rattle.life_rules.specs.declared.event.Resting.TheVariants.{Loop as AtLoop, Pool as AtPool, Parked as AtParked}
use Rattle.listed_words.specs.declared.seen.Seen.{Seen}
use Rattle.listed_words.specs.Lists.{entry}
use Rattle.node_tree.specs.Tree.{is_child}
use Rattle.plan_shape.specs.Blueprint.{Blueprint}
use Rattle.table_rules.specs.declared.view.Held.{Held}
use Rattle.table_rules.specs.Named.{without}
use Rattle.table_steps.specs.Views.{Board}
use Rattle.table_steps.specs.Seats.{Seated, view_of}
use Rattle.table_steps.specs.Lefts.{SaysControl}
use Rattle.table_steps.specs.Owing.{Owes}
use Rattle.table_steps.specs.Steps.{control_index}
use Rattle.home_items.specs.declared.entry.Entry.{Entry}
use Rattle.home_items.specs.declared.item.Item.{Item}
use Rattle.exec_recv.specs.declared.next.Next.{Next}
use Rattle.exec_recv.specs.declared.next.Next.TheVariants.{Go, Rest, InLoop, InPool, Parked}
use Rattle.exec_recv.specs.Areas.{MovesWithin}
use Rattle.exec_recv.specs.Asides.{KeepsAside}
use Rattle.exec_recv.specs.Beginnings.{AllCanStart}
use Rattle.exec_recv.specs.Steppable.{CanStep}

-- where the node is found, that was left so
abbrev pub next_for : Resting → Next
next_for AtLoop = InLoop
next_for AtPool = InPool
next_for AtParked = Parked

module _ (board : Board Blueprint) (x : Name) (m m' : Seated Item Entry) where
  -- the hand holds the node no more, and nothing in its place
  abbrev pub LetsGo : Type 0
  LetsGo = (view_of m').held ≡ without (λ (e : Held Entry). e.name) (view_of m).held x

  -- and its newest step left the node at rest there
  pub record LeftAt (to : Resting) : Type 0 where
    pub lets_go : LetsGo
    pub read : ℕ
    pub left : ℕ
    pub earlier : List Seen
    pub steps_are : (view_of m').steps ≡ entry (control_index board x) read left ∷ earlier
    pub says : SaysControl x (resting_at to) left

  -- it holds y in its place, which it may step
  pub record GoesTo (y : Name) : Type 0 where
    pub held : Held Entry
    pub holds : (view_of m').held ≡ held ∷ without (λ (e : Held Entry). e.name) (view_of m).held x
    pub can : CanStep board y m'

  -- the node to go on with is of the same operation as x
  abbrev pub IsNext : Next → Type 0
  IsNext (Go n) = GoesTo (beside x n)
  IsNext Rest = LetsGo
  IsNext InLoop = LeftAt AtLoop
  IsNext InPool = LeftAt AtPool
  IsNext Parked = LeftAt AtParked

  -- the hand owes starts that it owed before, and beside them those of children of x alone
  abbrev pub OwesNewBelow : Type 0
  OwesNewBelow =
      (y : Name) → Owes (view_of m') y →
      Owes (view_of m) y ⊎ (is_child board.frame.tree x.node y.node ≡ true)

  -- What each step of a node x leaves: the hand's view beside nodes and starts is as before, and no
  -- word was moved but those of places of the block of x. Each start that it owes can begin, and
  -- what it came to owe are starts of children of x.
  pub record IsStepped (next : Next) : Type 0 where
    pub aside : KeepsAside m m'
    pub moves : MovesWithin board x m m'
    pub starts : AllCanStart board m'
    pub owes : OwesNewBelow
    pub goes : IsNext next
