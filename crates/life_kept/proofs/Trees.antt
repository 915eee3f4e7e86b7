-- Parents and children in a tree.
use Rattle.std.proofs.Common.{◌≡◌, ℕ, ◌<◌, Bool, true, false, ◌&&◌, ◌==◌, nat_lt, Option, Some, None, List, length, is_none, refl, sym, ap, ◌∙◌, subst, slice_get}
use Rattle.std.specs.Option.{option_map_or}
use Rattle.std.proofs.lemmas.Option.{option_and_then_some, slice_get_within}
use Rattle.std.proofs.lemmas.Bool.{and_parts, eqb-true, eq-eqb, ltb-true, cond-true, cond-false}
use Rattle.node_tree.specs.declared.node.TreeNode.{TreeNode}
use Rattle.life_rules.specs.declared.event.Name.{Name}
use Rattle.life_rules.specs.Views.{beside}
use Rattle.node_tree.specs.Tree.{parent_of, is_child, is_root, has_place, IsTree}
use Rattle.common_lemmas.proofs.Options.{map_or-some}

some-from : (o : Option ℕ) (p : ℕ) → option_map_or (λ q. q == p) o false ≡ true → o ≡ Some p
some-from None p h = cc
some-from (Some q) p h = ap Some (eqb-true q p h)

none-maps : (o : Option ℕ) (f : ℕ → Bool) → is_none o ≡ true → option_map_or f o false ≡ false
none-maps None f h = refl
none-maps (Some q) f h = cc

pub child-parent : (tree : List TreeNode) (p n : ℕ) → is_child tree p n ≡ true → parent_of tree n ≡ Some p
child-parent tree p n h = some-from (parent_of tree n) p h

pub parent-child : (tree : List TreeNode) (p n : ℕ) → parent_of tree n ≡ Some p → is_child tree p n ≡ true
parent-child tree p n h = ap (λ o. option_map_or (λ q. q == p) o false) h ∙ eq-eqb p p refl

-- a node has one parent
pub child-one : (tree : List TreeNode) (p q n : ℕ) → is_child tree p n ≡ true → is_child tree q n ≡ true → p ≡ q
child-one tree p q n a b =
    let e : Some p ≡ Some q = sym (child-parent tree p n a) ∙ child-parent tree q n b in cc

placed : (tree : List TreeNode) → IsTree tree → (n : ℕ) → n < length tree → has_place tree n ≡ true
placed tree is n below = (and_parts _ _ (and_parts _ _ (is.each n below)).0).0

-- the root is no child
pub root-orphan : (tree : List TreeNode) → IsTree tree → (p n : ℕ) → n < length tree → is_root tree n ≡ true →
    is_child tree p n ≡ false
root-orphan tree is p n below root =
    none-maps (parent_of tree n) (λ q. q == p) (sym (cond-true (is_root tree n) _ _ root) ∙ placed tree is n below)

-- any other node has a parent, of greater number
pub parent-above : (tree : List TreeNode) → IsTree tree → (n : ℕ) → n < length tree → is_root tree n ≡ false →
    (p : ℕ) × (is_child tree p n ≡ true) × (n < p) × (p < length tree)
parent-above tree is n below root =
    let at = map_or-some (λ p. nat_lt n p && nat_lt p (length tree)) (parent_of tree n)
    (sym (cond-false (is_root tree n) _ _ root) ∙ placed tree is n below) in
    let parts = and_parts _ _ at.2 in
    (at.0, parent-child tree at.0 n at.1, ltb-true _ _ parts.0, ltb-true _ _ parts.1)

-- a child is a node of the tree
pub child-within : (tree : List TreeNode) (p n : ℕ) → is_child tree p n ≡ true → n < length tree
child-within tree p n h =
    option_and_then_some (λ node. node.parent) (slice_get tree n) p (child-parent tree p n h)
    (λ node at gives. slice_get_within tree n node at)

-- two names of one child are of one parent
pub parent-same : (tree : List TreeNode) (x y : Name) (m n : ℕ) → is_child tree x.node m ≡ true →
    is_child tree y.node n ≡ true → beside x m ≡ beside y n → x ≡ y
parent-same tree x y m n a b e =
    let block : x.block ≡ y.block = λ k. (e k).block in
    let generation : x.generation ≡ y.generation = λ k. (e k).generation in
    let child : m ≡ n = λ k. (e k).node in
    let node : x.node ≡ y.node =
    child-one tree x.node y.node n (subst (λ k. is_child tree x.node k ≡ true) child a) b in
    λ k. record { block = block k; generation = generation k; node = node k }
