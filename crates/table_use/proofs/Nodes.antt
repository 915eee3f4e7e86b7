-- The tree of these operations, and its nodes.
use Rattle.std.proofs.Common.{◌≡◌, ◌⊎◌, inl, inr, ℕ, zero, suc, ◌+◌, ◌-◌, ◌<◌, ◌≤◌, true, false, ◌||◌, ◌==◌, [], ◌∷◌, length, arith, refl, sym, ap, ◌∙◌, subst}
use Rattle.std.specs.Prelude.{Option, Some, is_some}
use Rattle.std.specs.List.{list_any}
use Rattle.std.specs.Option.{option_map_or}
use Rattle.std.proofs.lemmas.Bool.{eqb-true, ne_eqb}
use Rattle.life_rules.specs.declared.event.Name.{Name}
use Rattle.life_rules.specs.declared.event.SourceRef.{SourceRef}
use Rattle.life_rules.specs.declared.event.SourceRef.TheVariants.{Scope, Node}
use Rattle.node_tree.specs.Tree.{IsTree, TheScope, TheNode, nearest, has_source, source_above, is_child, is_node, is_root}
use Rattle.life_rules.specs.Views.{beside}
use Rattle.life_rules.specs.States.{source_for}
use Rattle.life_kept.proofs.Trees.{child-parent}
use Rattle.table_words.specs.Layouts.{place_number}
use Rattle.table_rules.specs.declared.view.Held.{Held}
use Rattle.table_steps.specs.Claims.{root_name}
use Rattle.table_steps.specs.Seats.{Seated}
use Rattle.table_steps.specs.Views.{Board, IsPlaceIn}
use Rattle.table_steps.specs.Finishes.{is_of_kids}
use Rattle.table_steps.specs.Readings.{above_it, HoldsAbove}
use Rattle.table_steps.specs.Sights.{IsSourceIn}
use Rattle.table_steps.specs.Slots.{slot_of, is_of_family, kids_of}
use Rattle.op_slot.specs.Tends.{AreApart, HasPlaces, Tends}
use Rattle.table_use.specs.declared.cargo.Env.{Env}
use Rattle.table_use.specs.Starts.{entry_at, above_of, path}
use Rattle.table_use.specs.Uses.{use_tree, IsNode, IsRoot}
use Rattle.table_use.specs.Scans.{Hears}

-- the nodes are a tree
use-node : (n : ℕ) → n < 4 → is_node use_tree n ≡ true
use-node zero below = refl
use-node (suc zero) below = refl
use-node (suc (suc zero)) below = refl
use-node (suc (suc (suc zero))) below = refl
use-node (suc (suc (suc (suc n)))) below = absurd (omega (arith, below))

pub tree-of : {O : Type 0} (board : Board O) → board.frame.tree ≡ use_tree → IsTree board.frame.tree
tree-of board is =
    let four : length use_tree ≡ 4 = refl in subst IsTree (sym is) (record { some = omega (arith, four); each = use-node })

-- children stand before their parent
use-before : (p n : ℕ) → is_child use_tree p n ≡ true → n < p
use-before p zero child = let is : 3 ≡ p = eqb-true 3 p child in omega (arith, is)
use-before p (suc zero) child = let is : 2 ≡ p = eqb-true 2 p child in omega (arith, is)
use-before p (suc (suc zero)) child = let is : 3 ≡ p = eqb-true 3 p child in omega (arith, is)
use-before p (suc (suc (suc zero))) child = cc
use-before p (suc (suc (suc (suc n)))) child = cc

-- and below the root
pub use-low-kid : (p n : ℕ) → is_child use_tree p n ≡ true → n < 3
use-low-kid p zero child = omega arith
use-low-kid p (suc zero) child = omega arith
use-low-kid p (suc (suc zero)) child = omega arith
use-low-kid p (suc (suc (suc zero))) child = cc
use-low-kid p (suc (suc (suc (suc n)))) child = cc

-- the start of a child goes on with its parent's
pub path-below : (env : Env) (p n : ℕ) → env.node ≡ p → is_child use_tree p n ≡ true → path env ≡ above_of (record env { node = n }) n
path-below env p zero at child = ap (λ k. entry_at env k ∷ above_of env k) (at ∙ sym (eqb-true 3 p child))
path-below env p (suc zero) at child = ap (λ k. entry_at env k ∷ above_of env k) (at ∙ sym (eqb-true 2 p child))
path-below env p (suc (suc zero)) at child = ap (λ k. entry_at env k ∷ above_of env k) (at ∙ sym (eqb-true 3 p child))
path-below env p (suc (suc (suc zero))) at child = cc
path-below env p (suc (suc (suc (suc n)))) at child = cc

-- the root has the leaf and the branch
pub use-root-kid : (n : ℕ) → is_child use_tree 3 n ≡ true → (n ≡ 0) ⊎ (n ≡ 2)
use-root-kid zero child = inl refl
use-root-kid (suc zero) child = cc
use-root-kid (suc (suc zero)) child = inr refl
use-root-kid (suc (suc (suc zero))) child = cc
use-root-kid (suc (suc (suc (suc n)))) child = cc

use-alone : (n : ℕ) → n < 2 → kids_of use_tree n ≡ []
use-alone zero below = refl
use-alone (suc zero) below = refl
use-alone (suc (suc n)) below = absurd (omega (arith, below))

-- where a node's callback is registered
abbrev pub above_node : ℕ → ℕ
above_node zero = 3
above_node (suc zero) = 2
above_node (suc (suc n)) = 3

pub use-nearest : (n : ℕ) → n < 3 → nearest use_tree n ≡ TheNode (above_node n)
unfolding source_above
use-nearest zero below = refl
use-nearest (suc zero) below = refl
use-nearest (suc (suc zero)) below = refl
use-nearest (suc (suc (suc n))) below = absurd (omega (arith, below))

-- the root and what is no node hear no node's source
pub use-scope : (n : ℕ) → 3 ≤ n → nearest use_tree n ≡ TheScope
unfolding source_above
use-scope zero high = absurd (omega (arith, high))
use-scope (suc zero) high = absurd (omega (arith, high))
use-scope (suc (suc zero)) high = absurd (omega (arith, high))
use-scope (suc (suc (suc zero))) high = refl
use-scope (suc (suc (suc (suc n)))) high = refl

above-greater : (n : ℕ) → n < 3 → n < above_node n
above-greater zero below = omega arith
above-greater (suc zero) below = omega arith
above-greater (suc (suc zero)) below = omega arith
above-greater (suc (suc (suc n))) below = absurd (omega (arith, below))

above-two : (n : ℕ) → n < 3 → above_node n ≡ 2 → n ≡ 1
above-two zero below is = cc
above-two (suc zero) below is = refl
above-two (suc (suc n)) below is = cc

above-three : (n : ℕ) → n < 3 → above_node n ≡ 3 → (n ≡ 2 → ⊥) → n ≡ 0
above-three zero below is other = refl
above-three (suc zero) below is other = cc
above-three (suc (suc zero)) below is other = absurd (other refl)
above-three (suc (suc (suc n))) below is other = absurd (omega (arith, below))

module _ {O : Type 0} (board : Board O) (x : Name) (is : IsNode board x) where
  pub node-place : IsPlaceIn board x
  node-place =
      let node = is.node in
      let wide = is.wide in record { block = is.block; node = omega (arith, node, wide) }

  pub node-places : HasPlaces board.frame x
  node-places =
      let wide = is.wide in
      let long : length board.frame.tree ≡ 4 = ap length is.tree in
      record {
        wide = omega (arith, wide, long);
        node = node-place.node;
        kids = λ n child. use-before x.node n (sym (ap (λ t. is_child t x.node n) is.tree) ∙ child);
      }

  pub beside-node : (n : ℕ) → n < 4 → IsNode board (beside x n)
  beside-node n below = record { tree = is.tree; block = is.block; wide = is.wide; node = below }

  pub named-kid : (y : Name) (n : ℕ) → n < 4 → y ≡ beside x n → IsNode board y
  named-kid y n below name = subst (λ (z : Name). IsNode board z) (sym name) (beside-node n below)

  pub node-inner : x.node < 3 → is_root board.frame.tree x.node ≡ false
  node-inner below =
      ap (λ t. is_root t x.node) is.tree ∙ ne_eqb (x.node + 1) 4 (λ e. absurd (omega (arith, below, e)))

  pub node-root : x.node ≡ 3 → is_root board.frame.tree x.node ≡ true
  node-root three = ap (λ t. is_root t x.node) is.tree ∙ ap (is_root use_tree) three

  pub leaf-alone : x.node < 2 → (slot : ℕ) → is_of_kids board.frame.tree board.frame.layout x slot ≡ false
  leaf-alone below slot =
      ap (list_any (λ n. place_number board.frame.layout x.block n == slot))
      (ap (λ t. kids_of t x.node) is.tree ∙ use-alone x.node below)

  pub leaf-family : x.node < 2 → (y : Name) → AreApart board.frame x y →
      is_of_family board.frame.tree board.frame.layout x (slot_of board.frame.layout y) ≡ false
  leaf-family below y apart =
      ap (λ b. b || is_of_kids board.frame.tree board.frame.layout x (slot_of board.frame.layout y)) apart
      ∙ leaf-alone below (slot_of board.frame.layout y)

  -- the children of the root are the leaf and the branch, that of the branch is the twig
  pub kid-here : (n : ℕ) → is_child use_tree x.node n ≡ true → is_child board.frame.tree x.node n ≡ true
  kid-here n child = ap (λ t. is_child t x.node n) is.tree ∙ child

  pub kid-of : (p n : ℕ) → x.node ≡ p → is_child use_tree p n ≡ true → is_child board.frame.tree x.node n ≡ true
  kid-of p n at child = ap (λ t. is_child t x.node n) is.tree ∙ (ap (λ q. is_child use_tree q n) at ∙ child)

  module _ (n : ℕ) (child : is_child board.frame.tree x.node n ≡ true) where
    pub kid-above : above_it board.frame.tree (beside x n) ≡ x
    kid-above =
        ap (λ o. option_map_or (λ p. beside (beside x n) p) o (beside x n)) (child-parent board.frame.tree x.node n child)

    pub kid-held : {P E : Type 0} (held : Held E) (inside : Option P) (kid : ℕ → Option P) (m : Seated P E) →
        Tends board.frame x held inside kid m → HoldsAbove board.frame.tree m.0 (beside x n)
    kid-held held inside kid m has =
        record {
          parent = x.node;
          parent_is = child-parent board.frame.tree x.node n child;
          held = held;
          holds = has.holds;
        }

  -- a node below the root hears a source
  pub node-hears : x.node < 3 → is_some (source_for x (nearest board.frame.tree x.node)) ≡ true
  node-hears below =
      ap (λ t. is_some (source_for x (nearest t x.node))) is.tree ∙ ap (λ k. is_some (source_for x k)) (use-nearest x.node below)

  -- a node with a source has it in the table
  pub source-in : has_source board.frame.tree x.node ≡ true → IsSourceIn board (Node x)
  source-in has = record { spot = (is.block, node-place.node); is_one = has }

-- the source that a node below the root hears is that of the root or the branch
above-source : (n : ℕ) → n < 3 → has_source use_tree (above_node n) ≡ true
above-source zero below = refl
above-source (suc zero) below = refl
above-source (suc (suc n)) below = refl

some-source : (s t : SourceRef) → Some s ≡ Some t → s ≡ t
some-source s t e = cc

pub source-above : {O : Type 0} (board : Board O) (x : Name) → IsNode board x → x.node < 3 → (source : SourceRef) →
    source_for x (nearest board.frame.tree x.node) ≡ Some source →
    (n : ℕ) × (has_source use_tree n ≡ true) × (source ≡ Node (beside x n))
source-above board x is low source nearest_is = (
  above_node x.node,
  above-source x.node low,
  some-source source (Node (beside x (above_node x.node)))
      (sym nearest_is ∙ ap (λ t. source_for x (nearest t x.node)) is.tree ∙ ap (source_for x) (use-nearest x.node low)),
)

-- the root of a block
pub named-root : {O : Type 0} (board : Board O) (x : Name) (block generation : ℕ) → board.frame.tree ≡ use_tree → IsPlaceIn board x →
    x ≡ root_name board block generation → IsRoot board x
named-root board x block generation tree place name =
    let three : x.node ≡ 3 = ap (λ (y : Name). y.node) name ∙ ap (λ t. length t - 1) tree in
    let within = place.node in
    record {
      is_node = record { tree = tree; block = place.block; wide = omega (arith, three, within); node = omega (arith, three) };
      three = three;
    }

-- a callback that is registered on a node's source is of a node below it
some-node : (a b : Name) → Some (Node a) ≡ Some (Node b) → a ≡ b
some-node a b e = cc

scope-no : (y : Name) → Some Scope ≡ Some (Node y) → ⊥
scope-no y e = cc

use-low : (n : ℕ) (x y : Name) → source_for x (nearest use_tree n) ≡ Some (Node y) → n < 3
use-low zero x y e = omega arith
use-low (suc zero) x y e = omega arith
use-low (suc (suc zero)) x y e = omega arith
use-low (suc (suc (suc n))) x y e =
    absurd (scope-no y (sym (ap (source_for x) (use-scope (suc (suc (suc n))) (omega arith))) ∙ e))

module _ {O : Type 0} (board : Board O) (tree_is : board.frame.tree ≡ use_tree) (x y : Name) (heard : Hears board.frame.tree (Node y) x) where
  heard-use : source_for x (nearest use_tree x.node) ≡ Some (Node y)
  heard-use = ap (λ t. source_for x (nearest t x.node)) (sym tree_is) ∙ heard

  pub heard-low : x.node < 3
  heard-low = use-low x.node x y heard-use

  heard-name : beside x (above_node x.node) ≡ y
  heard-name =
      some-node (beside x (above_node x.node)) y (sym (ap (source_for x) (use-nearest x.node heard-low)) ∙ heard-use)

  -- so the place is of the same block and generation, and stands before the node
  pub heard-is : x ≡ beside y x.node
  heard-is = ap (λ (z : Name). beside z x.node) heard-name

  pub heard-before : x.node < y.node
  heard-before =
      let is : above_node x.node ≡ y.node = ap (λ (z : Name). z.node) heard-name in
      subst (λ n. x.node < n) is (above-greater x.node heard-low)

  -- what hears the branch is the twig
  pub heard-twig : y.node ≡ 2 → x ≡ beside y 1
  heard-twig two =
      let is : above_node x.node ≡ 2 = ap (λ (z : Name). z.node) heard-name ∙ two in
      heard-is ∙ ap (beside y) (above-two x.node heard-low is)

  -- what hears the root and isn't the branch is the leaf
  pub heard-leaf : y.node ≡ 3 → (x.node ≡ 2 → ⊥) → x ≡ beside y 0
  heard-leaf three other =
      let is : above_node x.node ≡ 3 = ap (λ (z : Name). z.node) heard-name ∙ three in
      heard-is ∙ ap (beside y) (above-three x.node heard-low is other)

-- the leaf is below the root
pub leaf-low : (root leaf : Name) → leaf ≡ beside root 0 → leaf.node < 3
leaf-low root leaf name = subst (λ (z : Name). z.node < 3) (sym name) (omega arith)

-- a node is beside itself
pub own-name : (x : Name) (n : ℕ) → x.node ≡ n → x ≡ beside x n
own-name x n at = ap (beside x) at
