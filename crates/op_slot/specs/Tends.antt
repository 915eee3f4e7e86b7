-- What a hand has of one node: the start that it owes, or the node that it holds, and what lies in
-- the homes that it has with it.
use Rattle.std.specs.Prelude.{◌≡◌, ℕ, ◌<◌, ◌≤◌, true, false, ◌==◌, if◌then◌else◌, [], length, Option, Some}
use Rattle.life_rules.specs.declared.event.Name.{Name}
use Rattle.node_tree.specs.Tree.{is_child}
use Rattle.table_words.specs.Layouts.{place_number}
use Rattle.table_rules.specs.declared.frame.Frame.{Frame}
use Rattle.table_rules.specs.declared.view.Held.{Held}
use Rattle.table_rules.specs.declared.view.Owed.{Owed}
use Rattle.table_rules.specs.declared.view.Reported.{Reported}
use Rattle.table_steps.specs.Seats.{Seated, homes_of, view_of}
use Rattle.table_steps.specs.Slots.{slot_of, kept, held_at, owed_at, reported_at, home_at}

-- the hand makes no scan
abbrev pub IsCalm : {P E : Type 0} → Seated P E → Type 0
IsCalm m = (view_of m).scans ≡ []

-- the home of this node of a family, changed in one
abbrev pub put_at : {A : Type 0} → ℕ → A → (ℕ → A) → ℕ → A
put_at n new kid k = if n == k then new else kid k

-- the hand owes the report of the node, with this entry
abbrev pub OwesReport : {P E : Type 0} → Name → Reported P E → Seated P E → Type 0
OwesReport x entry m = reported_at (view_of m) x ≡ Some entry

module _ {O : Type 0} (f : Frame O) (x : Name) where
  -- the table has a place for each node of the tree, the node is one of them, and its children
  -- stand before it
  pub record HasPlaces : Type 0 where
    pub wide : length f.tree ≤ f.layout.nodes
    pub node : x.node < f.layout.nodes
    pub kids : (n : ℕ) → is_child f.tree x.node n ≡ true → n < x.node

  -- the home of another node is another one
  abbrev pub AreApart : Name → Type 0
  AreApart y = (slot_of f.layout x == slot_of f.layout y) ≡ false

module _ {P E O : Type 0} (f : Frame O) (x : Name) where
  -- the hand owes the node's start, and this lies in the node's home
  pub record Owes (owed : Owed E) (inside : Option P) (m : Seated P E) : Type 0 where
    pub owes : owed_at (view_of m) x ≡ Some owed
    pub home : home_at f.layout m x ≡ Some inside

  -- the hand holds the node. This lies in the node's home, and this in those of its children
  pub record Tends (held : Held E) (inside : Option P) (kid : ℕ → Option P)
      (m : Seated P E) : Type 0 where
    pub holds : held_at (view_of m) x ≡ Some held
    pub own : home_at f.layout m x ≡ Some inside
    pub kids : (n : ℕ) → is_child f.tree x.node n ≡ true →
        kept (place_number f.layout x.block n) (homes_of m) ≡ Some (kid n)

-- what the hand owes besides the node it still owes, and what lies in those homes still lies there
abbrev pub KeepsOwed : {P E O : Type 0} → Frame O → Name → Seated P E → Seated P E → Type 0
KeepsOwed {P} {E} f x m m' =
    (y : Name) (owed : Owed E) (inside : Option P) → AreApart f x y → Owes f y owed inside m →
    Owes f y owed inside m'
