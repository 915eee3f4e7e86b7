-- Several children of a node that a hand holds.
use Rattle.std.specs.Prelude.{◌≡◌, ℕ, ◌<◌, true, List, length, slice_index, Some}
use Rattle.common_lemmas.specs.Lists.{are_different}
use Rattle.life_rules.specs.declared.event.Name.{Name}
use Rattle.node_tree.specs.Tree.{is_child}
use Rattle.plan_shape.specs.Blueprint.{Blueprint}
use Rattle.table_rules.specs.declared.view.Held.{Held}
use Rattle.table_steps.specs.Views.{Board}
use Rattle.table_steps.specs.Seats.{Seated, view_of}
use Rattle.table_steps.specs.Slots.{held_at, knows_idle}
use Rattle.home_items.specs.declared.entry.Entry.{Entry}
use Rattle.home_items.specs.declared.item.Item.{Item}

-- these are children of x, different ones
pub record AreKids (board : Board Blueprint) (x : Name) (children : List ℕ) : Type 0 where
  pub each : (i : ℕ) → i < length children →
      is_child board.frame.tree x.node (slice_index children i) ≡ true
  pub different : are_different children ≡ true

-- the hand holds x, and knows that the first so many of these children haven't begun
pub record KnowsAllIdle (x : Name) (children : List ℕ) (count : ℕ) (m : Seated Item Entry) :
    Type 0 where
  pub held : Held Entry
  pub holds : held_at (view_of m) x ≡ Some held
  pub idle : (i : ℕ) → i < count → knows_idle held (slice_index children i) ≡ true

-- the hand holds x still, and of each child of x of which it knew that it hasn't begun it still
-- knows so
pub record KeepsIdle (x : Name) (m m' : Seated Item Entry) : Type 0 where
  pub held : (before : Held Entry) → held_at (view_of m) x ≡ Some before → Held Entry
  pub holds : (before : Held Entry) (had : held_at (view_of m) x ≡ Some before) →
      held_at (view_of m') x ≡ Some (held before had)
  pub still : (before : Held Entry) (had : held_at (view_of m) x ≡ Some before) (n : ℕ) →
      knows_idle before n ≡ true → knows_idle (held before had) n ≡ true
