-- The walk up from a node: enough steps give one answer, so a node's answer comes from its parent's.
use Rattle.std.proofs.Common.{◌≡◌, ℕ, zero, suc, ◌+◌, ◌<◌, ◌≤◌, true, false, ◌&&◌, List, length, Option, Some, None, refl, sym, ap, ◌∙◌, subst, inl, inr, get_or, arith}
use Rattle.std.specs.Prelude.{nat_lt, is_none, if◌then◌else◌}
use Rattle.std.specs.Option.{option_map_or, option_and_then}
use Rattle.std.proofs.lemmas.Bool.{and_parts, ltb-true, cond-true, cond-false, cases_lt, both_ways}
use Rattle.std.proofs.lemmas.Option.{slice_get_past, slice_get-get_or}
use Rattle.node_tree.specs.declared.node.TreeNode.{TreeNode}
use Rattle.node_tree.specs.Tree.{IsTree, TheScope, TheNode, Nowhere, parent_of, has_source, is_unstoppable, is_root, has_place, given_by, source_above, nearest}
use Rattle.common_lemmas.proofs.Bool.{either}
use Rattle.common_lemmas.proofs.Options.{known}
use Rattle.node_tree.specs.declared.nearest.NearestSource.{NearestSource}
use Rattle.node_tree.specs.declared.nearest.NearestSource.TheVariants.{Scope, Node, Nowhere as NoNode}
use Rattle.node_tree.specs.Nearest.{read, IsSourceOf}

source_above-some : (tree : List TreeNode) (steps n p : ℕ) → parent_of tree n ≡ Some p →
    source_above tree (suc steps) n ≡ given_by tree p (source_above tree steps p)
unfolding source_above
source_above-some tree steps n p e =
    ap (λ o. option_map_or (λ q. given_by tree q (source_above tree steps q)) o TheScope) e

source_above-none : (tree : List TreeNode) (steps n : ℕ) → parent_of tree n ≡ None →
    source_above tree steps n ≡ TheScope
unfolding source_above
source_above-none tree zero n e = refl
source_above-none tree (suc steps) n e =
    ap (λ o. option_map_or (λ q. given_by tree q (source_above tree steps q)) o TheScope) e

-- the parent as it stands in the list
pub parent_of-read : (tree : List TreeNode) (n : ℕ) (d : TreeNode) → n < length tree →
    parent_of tree n ≡ (get_or tree n d).parent
parent_of-read tree n d within =
    ap (λ o. option_and_then (λ (node : TreeNode). node.parent) o) (slice_get-get_or tree n d within)

-- a parent has a greater number than its child, and is in the tree
pub parent_within : (tree : List TreeNode) (n p : ℕ) → IsTree tree → parent_of tree n ≡ Some p →
    (n < p) × (p < length tree)
parent_within tree n p is e =
    elim (cases_lt n (length tree)) [
      | inl within ↦
          let place : has_place tree n ≡ true = (and_parts _ _ (and_parts _ _ (is.each n within)).0).0 in
          either (is_root tree n)
          (λ root. absurd (
          let none : is_none (parent_of tree n) ≡ true =
          sym (cond-true (is_root tree n) (is_none (parent_of tree n)) (option_map_or (λ q. nat_lt n q && nat_lt q (length tree)) (parent_of tree n) false) root) ∙ place in
          let some : is_none (parent_of tree n) ≡ false = ap is_none e in
          cc))
          (λ other.
          let test : option_map_or (λ q. nat_lt n q && nat_lt q (length tree)) (parent_of tree n) false ≡ true =
          sym (cond-false (is_root tree n) (is_none (parent_of tree n)) (option_map_or (λ q. nat_lt n q && nat_lt q (length tree)) (parent_of tree n) false) other) ∙ place in
          let at_p : (nat_lt n p && nat_lt p (length tree)) ≡ true =
          sym (ap (λ o. option_map_or (λ q. nat_lt n q && nat_lt q (length tree)) o false) e) ∙ test in
          let parts = and_parts _ _ at_p in
          (ltb-true _ _ parts.0, ltb-true _ _ parts.1))
      | inr past ↦
          let none : parent_of tree n ≡ None =
          ap (λ o. option_and_then (λ (node : TreeNode). node.parent) o) (slice_get_past tree n past) in
          absurd (cc)
    ]

-- walks from one node that are long enough to come to the root find the same
walk_enough : (tree : List TreeNode) → IsTree tree → (s t n : ℕ) → length tree ≤ n + s + 1 →
    length tree ≤ n + t + 1 → source_above tree s n ≡ source_above tree t n
walk_enough tree is zero t n a b =
    known (parent_of tree n)
    (λ none. source_above-none tree zero n none ∙ sym (source_above-none tree t n none))
    (λ p some. let up = parent_within tree n p is some in absurd (omega (arith, a, up.0, up.1)))
walk_enough tree is (suc s) zero n a b =
    known (parent_of tree n)
    (λ none. source_above-none tree (suc s) n none ∙ sym (source_above-none tree zero n none))
    (λ p some. let up = parent_within tree n p is some in absurd (omega (arith, b, up.0, up.1)))
walk_enough tree is (suc s) (suc t) n a b =
    known (parent_of tree n)
    (λ none. source_above-none tree (suc s) n none ∙ sym (source_above-none tree (suc t) n none))
    (λ p some.
    let up = parent_within tree n p is some in
    let more : source_above tree s p ≡ source_above tree t p =
    walk_enough tree is s t p (omega (arith, a, up.0)) (omega (arith, b, up.0)) in
    source_above-some tree s n p some
    ∙ ap (given_by tree p) more
    ∙ sym (source_above-some tree t n p some))

-- a child has what its parent gives it
pub nearest-some : (tree : List TreeNode) (n p : ℕ) → IsTree tree → parent_of tree n ≡ Some p →
    nearest tree n ≡ given_by tree p (nearest tree p)
nearest-some tree n p is some =
    walk_enough tree is (length tree) (suc (length tree)) n (omega arith) (omega arith)
    ∙ source_above-some tree (length tree) n p some

-- the root has the scope's source
pub nearest-none : (tree : List TreeNode) (n : ℕ) → parent_of tree n ≡ None → nearest tree n ≡ TheScope
nearest-none tree n none = source_above-none tree (length tree) n none

same_node : (p q : ℕ) → TheNode p ≡ TheNode q → p ≡ q
same_node p q e = cc

scope_apart : (tree : List TreeNode) (n p : ℕ) → source_above tree zero n ≡ TheNode p → ⊥
unfolding source_above
scope_apart tree n p e = cc

-- a nearest source that is a node's: that node has one
source_above-source : (tree : List TreeNode) (steps n p : ℕ) → source_above tree steps n ≡ TheNode p →
    has_source tree p ≡ true
source_above-source tree zero n p e = absurd (scope_apart tree n p e)
source_above-source tree (suc steps) n p e =
    known (parent_of tree n)
    (λ none. let scope = source_above-none tree (suc steps) n none in absurd (cc))
    (λ q some.
    let above = source_above tree steps q in
    let gives : given_by tree q above ≡ TheNode p = sym (source_above-some tree steps n q some) ∙ e in
    either (has_source tree q)
    (λ has.
    let at : q ≡ p = same_node q p (sym (cond-true (has_source tree q) (TheNode q) _ has) ∙ gives) in
    subst (λ m. has_source tree m ≡ true) at has)
    (λ none.
    let rest : (if is_unstoppable tree q then Nowhere else above) ≡ TheNode p =
    sym (cond-false (has_source tree q) (TheNode q) _ none) ∙ gives in
    either (is_unstoppable tree q)
    (λ shelters. let nowhere = sym (cond-true (is_unstoppable tree q) Nowhere above shelters) ∙ rest in absurd (cc))
    (λ passes.
    source_above-source tree steps q p (sym (cond-false (is_unstoppable tree q) Nowhere above passes) ∙ rest))))

pub nearest-source : (tree : List TreeNode) (n p : ℕ) → nearest tree n ≡ TheNode p →
    (has_source tree p ≡ true) × (p < length tree)
nearest-source tree n p e =
    let has = source_above-source tree (length tree) n p e in (
      has,
      elim (cases_lt p (length tree)) [
        | inl within ↦ within
        | inr past ↦
            let none : has_source tree p ≡ false =
            ap (λ o. option_map_or (λ (node : TreeNode). node.source) o false) (slice_get_past tree p past) in
            absurd (both_ways _ none has)
      ],
    )

-- what a table tells of a node is the source of a node that has one
pub source-read : (tree : List TreeNode) (n : ℕ) (told : NearestSource) → read told ≡ nearest tree n →
    IsSourceOf tree told
source-read tree n Scope e = tt
source-read tree n (Node p) e = nearest-source tree n p (sym e)
source-read tree n NoNode e = tt
