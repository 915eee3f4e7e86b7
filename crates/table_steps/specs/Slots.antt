-- The homes that a hand has: the slots that it carries, and those that its view gives it.
use Rattle.std.specs.Prelude.{◌≡◌, ◌≢◌, ℕ, Bool, true, false, ◌||◌, ◌==◌, if◌then◌else◌, List, [], ◌∷◌, length, Option, Some, None}
use Rattle.std.specs.List.{list_any}
use Rattle.std.specs.Option.{option_map_or}
use Rattle.node_tree.specs.declared.node.TreeNode.{TreeNode}
use Rattle.life_rules.specs.declared.event.Name.{Name}
use Rattle.node_tree.specs.Tree.{nearest}
use Rattle.life_rules.specs.States.{source_for}
use Rattle.table_words.specs.declared.layout.Layout.{Layout}
use Rattle.table_words.specs.Layouts.{place_number}
use Rattle.table_rules.specs.declared.view.View.{View}
use Rattle.table_rules.specs.declared.view.Held.{Held}
use Rattle.table_rules.specs.declared.view.Owed.{Owed}
use Rattle.table_rules.specs.declared.view.Reported.{Reported}
use Rattle.table_rules.specs.declared.view.Rooted.{Rooted}
use Rattle.table_rules.specs.Named.{Each, find_by}
use Rattle.table_rules.specs.ShownViews.{has_source_ref}
use Rattle.table_steps.specs.Kids.{children_below}
use Rattle.table_steps.specs.Seats.{homes_of, view_of}

-- the node that a step is about, in a table over this tree
pub record Aim : Type 0 where
  pub tree : List TreeNode
  pub layout : Layout
  pub name : Name

-- the slot of the node's home
abbrev pub slot_of : Layout → Name → ℕ
slot_of l x = place_number l x.block x.node

abbrev pub kids_of : List TreeNode → ℕ → List ℕ
kids_of tree n = children_below tree n (length tree)

-- what the hand carries in this slot: none where it hasn't the slot
abbrev pub kept : {A : Type 0} → ℕ → List (ℕ × A) → Option A
kept slot [] = None
kept slot (c ∷ cs) = if c.0 == slot then Some c.1 else kept slot cs

-- what the view has of the node x: the entry with which it holds it, with which it owes its start
-- or its report, and the start that it noted of a root
abbrev pub held_at : {P E : Type 0} → View P E → Name → Option (Held E)
held_at v x = find_by (λ e. e.name) v.held x

-- a hand that holds a node with this entry knows that the node's child hasn't begun: it has read
-- so, or the node has named none yet
abbrev pub knows_idle : {E : Type 0} → Held E → ℕ → Bool
knows_idle held n = held.named == 0 || list_any (λ q. q == n) held.idle

abbrev pub owed_at : {P E : Type 0} → View P E → Name → Option (Owed E)
owed_at v x = find_by (λ e. e.name) v.owed x

abbrev pub reported_at : {P E : Type 0} → View P E → Name → Option (Reported P E)
reported_at v x = find_by (λ e. e.name) v.reported x

abbrev pub noted_at : {P E : Type 0} → View P E → Name → Option (Rooted E)
noted_at v x = find_by (λ e. e.name) v.noted x

-- what lies in the node's home: none where the hand hasn't the home
abbrev pub home_at : {P E : Type 0} → Layout → View P E × List (ℕ × Option P) → Name →
    Option (Option P)
home_at l m x = kept (slot_of l x) (homes_of m)

-- the slot is that of the node, or of one of its children
abbrev pub is_of_family : List TreeNode → Layout → Name → ℕ → Bool
is_of_family tree l x slot =
    slot_of l x == slot || list_any (λ n. place_number l x.block n == slot) (kids_of tree x.node)

-- the view gives its hand the slot: that of a node whose start it owes, of a node that it holds, of
-- a child of such a node, or of a finished root
abbrev pub has_slot : {P E : Type 0} → List TreeNode → Layout → View P E → ℕ → Bool
has_slot tree l v slot =
    list_any (λ e. slot_of l e.name == slot) v.owed
    || (list_any (λ e. is_of_family tree l e.name slot) v.held
    || list_any (λ x. slot_of l x == slot) v.finished)

-- no slot stands there twice
abbrev pub AreApart : {A : Type 0} → List (ℕ × A) → Type 0
AreApart [] = Unit {0}
AreApart (c ∷ cs) = Each (λ d. d.0 ≢ c.0) cs × AreApart cs

-- the hand stands for itself alone, and carries each slot once, and only such as its view gives it
pub record IsSeated {P E : Type 0} (tree : List TreeNode) (l : Layout)
    (m : View P E × List (ℕ × Option P)) : Type 0 where
  pub apart : AreApart (homes_of m)
  pub given : Each (λ c. has_slot tree l (view_of m) c.0 ≡ true) (homes_of m)
  pub itself : (view_of m).hands ≡ 1

-- the hand has seen a request on the source that the node hears
abbrev pub has_seen : {P E : Type 0} → List TreeNode → View P E → Name → Bool
has_seen tree v x = option_map_or (has_source_ref v.seen) (source_for x (nearest tree x.node)) false
