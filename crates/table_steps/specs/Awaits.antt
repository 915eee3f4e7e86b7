-- What a hand needs to await children of a node, and what that does to the hand.
use Rattle.std.specs.Prelude.{◌≡◌, ℕ, ℤ, ◌≤◌, Bool, true, not, ◌&&◌, ◌||◌, ◌==◌, List, [], ◌∷◌, length, Some}
use Rattle.std.specs.List.{list_any, list_all}
use Rattle.node_tree.specs.declared.node.TreeNode.{TreeNode}
use Rattle.life_rules.specs.declared.event.Name.{Name}
use Rattle.node_tree.specs.Tree.{is_child}
use Rattle.life_rules.specs.Views.{beside}
use Rattle.common_lemmas.specs.Lists.{are_different}
use Rattle.table_words.specs.declared.layout.Layout.{Layout}
use Rattle.table_words.specs.Layouts.{place_number}
use Rattle.table_rules.specs.declared.cargo.Cargo.{Ghosts}
use Rattle.table_rules.specs.declared.frame.Frame.{Frame}
use Rattle.table_rules.specs.declared.view.View.{View}
use Rattle.table_rules.specs.declared.view.Owed.{Owed}
use Rattle.table_steps.specs.Owing.{owing, AreOfItsBlock}
use Rattle.table_steps.specs.Claims.{with_step}
use Rattle.table_steps.specs.Seats.{Seated, homes_of, view_of}
use Rattle.table_steps.specs.Slots.{Aim, slot_of, kids_of, knows_idle, IsSeated, has_seen, home_at}
use Rattle.table_steps.specs.Sheds.{shed}
use Rattle.table_steps.specs.Rests.{lets_go, CanLeave}

-- the list, and before it these children of the node, owed with this start above them and this lot
abbrev pub owes_each : {E : Type 0} → Name → List E → List ℤ → List ℕ → List (Owed E) →
    List (Owed E)
owes_each x start lot [] owed = owed
owes_each x start lot (n ∷ ns) owed =
    record { name = beside x n; above = start; lot = lot } ∷ owes_each x start lot ns owed

-- the hand holds the node no more, and owes the children their starts
abbrev pub awaits : {P E : Type 0} → Name → List E → List ℤ → List ℕ → View P E → View P E
awaits x start lot nodes v = record (lets_go x v) { owed = owes_each x start lot nodes v.owed }

abbrev pub is_named : List ℕ → ℕ → Bool
is_named nodes n = list_any (λ m. m == n) nodes

-- the slot is that of the node, or of a child that isn't named
abbrev pub is_unnamed : List TreeNode → Layout → Name → List ℕ → ℕ → Bool
is_unnamed tree l x nodes slot =
    slot_of l x == slot
    || list_any (λ n. not (is_named nodes n) && place_number l x.block n == slot)
    (kids_of tree x.node)

-- the hand holds the node with an item in its home that shows the node's start, is no completion,
-- fits by what the hand has seen of requests and was told, and asks for no more children than are
-- named. It names different children, at least one, that it knows haven't begun
pub record CanAwait {P E O : Type 0} (cargo : Ghosts P E O) (f : Frame O) (m : Seated P E)
    (x : Name) (nodes : List ℕ) : Type 0 where
  pub leave : CanLeave f m x
  pub item : P
  pub home : home_at f.layout m x ≡ Some (Some item)
  pub start : cargo.start item ≡ leave.held.start
  pub fit : cargo.fits item x.node (has_seen f.tree (view_of m) x || leave.held.told)
  pub goes_on : ¬ cargo.ends item
  pub bound : cargo.least item ≤ length nodes
  pub some_child : 1 ≤ length nodes
  pub different : are_different nodes ≡ true
  pub idle : list_all (λ n. is_child f.tree x.node n && knows_idle leave.held n) nodes ≡ true

-- the store: the hand gave back the home of the node, with the item, and those of the children that
-- aren't named
pub record AwaitsAt {P E O : Type 0} (cargo : Ghosts P E O) (aim : Aim) (nodes : List ℕ)
    (i read left : ℕ) (m m' : Seated P E) : Type 0 where
  pub item : P
  pub home : home_at aim.layout m aim.name ≡ Some (Some item)
  pub me_is : m' ≡ (
    with_step i read left (awaits aim.name (cargo.start item) (cargo.lot item) nodes (view_of m)),
    shed (is_unnamed aim.tree aim.layout aim.name nodes) (homes_of m),
  )
  pub seated : IsSeated aim.tree aim.layout m'
  -- before it the hand owed none of these children's starts, and all that it owed in the block was
  -- of the node's generation
  pub unowed : (n : ℕ) → is_named nodes n ≡ true → owing (view_of m) (beside aim.name n) ≡ 0
  pub beside_it : AreOfItsBlock (view_of m) aim.name
