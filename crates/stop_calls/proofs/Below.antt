-- A node that hears another's source lies below it.
use Rattle.std.proofs.Common.{◌≡◌, ℕ, zero, suc, ◌+◌, ◌<◌, ◌≤◌, true, false, ◌==◌, List, [], ◌∷◌, length, sym, ap, ◌∙◌, subst, arith}
use Rattle.std.specs.Prelude.{Some, if◌then◌else◌}
use Rattle.std.proofs.lemmas.Bool.{and_parts, eqb-true, cond-true, cond-false}
use Rattle.node_tree.specs.declared.node.TreeNode.{TreeNode}
use Rattle.node_tree.specs.Tree.{IsTree, Nearest, TheScope, TheNode, Nowhere, nearest, parent_of, has_source, is_unstoppable, given_by}
use Rattle.node_tree.proofs.Walk.{parent_within, nearest-some, nearest-none}
use Rattle.life_rules.specs.declared.event.Name.{Name}
use Rattle.life_rules.specs.declared.event.SourceRef.{SourceRef}
use Rattle.life_rules.specs.declared.event.SourceRef.TheVariants.{Scope, Node}
use Rattle.common_lemmas.proofs.Bool.{either}
use Rattle.common_lemmas.proofs.Options.{known}
use Rattle.life_rules.specs.Views.{beside}
use Rattle.life_rules.specs.States.{source_for}
use Rattle.table_rules.specs.declared.view.Scanning.{Scanning}
use Rattle.table_rules.specs.Named.{Each}
use Rattle.table_steps.specs.ScanOrders.{hears, is_the_node}
use Rattle.stop_calls.specs.Cursors.{NoneHears}
use Rattle.stop_calls.specs.Nestings.{IsAbove, AreAbove, AreOuter, AreAround, Hears, depth_of, scan_at}

-- a node's source that is the nearest of another one is of a node with a greater number
same-node : (p q : ℕ) → TheNode p ≡ TheNode q → p ≡ q
same-node p q e = cc

-- what a node gives its children is the source of itself or of a node above
given-least : (tree : List TreeNode) (q p : ℕ) → given_by tree q (nearest tree q) ≡ TheNode p → (nearest tree q ≡ TheNode p → q < p) → q ≤ p
given-least tree q p gives above =
    either (has_source tree q)
    (λ has. let at : q ≡ p = same-node q p (sym (cond-true (has_source tree q) (TheNode q) _ has) ∙ gives) in omega (arith, at))
    (λ none.
    let other : (if is_unstoppable tree q then Nowhere else nearest tree q) ≡ TheNode p =
    sym (cond-false (has_source tree q) (TheNode q) _ none) ∙ gives in
    either (is_unstoppable tree q)
    (λ shelters. let nowhere = sym (cond-true (is_unstoppable tree q) Nowhere (nearest tree q) shelters) ∙ other in absurd (cc))
    (λ passes.
    let more = above (sym (cond-false (is_unstoppable tree q) Nowhere (nearest tree q) passes) ∙ other) in
    omega (arith, more)))

nearest-below : (tree : List TreeNode) → IsTree tree → (steps n p : ℕ) → length tree ≤ n + steps + 1 → nearest tree n ≡ TheNode p → n < p
nearest-below tree is zero n p enough at =
    known (parent_of tree n)
    (λ none. let scope = nearest-none tree n none in absurd (cc))
    (λ q some. let up = parent_within tree n q is some in absurd (omega (arith, enough, up.0, up.1)))
nearest-below tree is (suc steps) n p enough at =
    known (parent_of tree n)
    (λ none. let scope = nearest-none tree n none in absurd (cc))
    (λ q some.
    let up = parent_within tree n q is some in
    let least =
    given-least tree q p (sym (nearest-some tree n q is some) ∙ at)
    (λ there. nearest-below tree is steps q p (omega (arith, enough, up.0)) there) in
    omega (arith, least, up.0))

module _ (tree : List TreeNode) (is : IsTree tree) where
  pub source-greater : (n p : ℕ) → nearest tree n ≡ TheNode p → n < p
  source-greater n p at = nearest-below tree is (length tree) n p (omega arith) at

  source-node : (x y : Name) (above : Nearest) → source_for x above ≡ Some (Node y) → above ≡ TheNode y.node
  source-node x y TheScope heard = absurd (cc)
  source-node x y (TheNode p) heard =
      let is_beside : beside x p ≡ y = cc in ap (λ (z : Name). TheNode z.node) is_beside
  source-node x y Nowhere heard = absurd (cc)

  -- a node that hears another's source has a smaller number
  pub heard-less : (x y : Name) → Hears tree (Node y) x → x.node < y.node
  heard-less x y heard = source-greater x.node y.node (source-node x y (nearest tree x.node) heard)

  the-node : (q : ℕ) (above : Nearest) → is_the_node q above ≡ true → above ≡ TheNode q
  the-node q TheScope t = absurd (cc)
  the-node q (TheNode p) t = ap TheNode (eqb-true p q t)
  the-node q Nowhere t = absurd (cc)

  -- a node that isn't below another doesn't hear its source
  pub deaf-above : (y : Name) (block node : ℕ) → y.node ≤ node → hears tree (Node y) block node ≡ false
  deaf-above y block node high =
      either (hears tree (Node y) block node)
      (λ t.
      let at = the-node y.node (nearest tree node) (and_parts (block == y.block) (is_the_node y.node (nearest tree node)) t).1 in
      let less = source-greater node y.node at in
      absurd (omega (arith, high, less)))
      (λ f. f)

  deaf-runs : (y : Name) (runs : List Name) → AreAround (Node y) runs → NoneHears tree (Node y) runs
  deaf-runs y [] around = tt
  deaf-runs y (x ∷ runs) around = (deaf-above y x.block x.node around.0, deaf-runs y runs around.1)

  -- no callback that may run around a scan hears its source
  pub around-unrun : (source : SourceRef) (runs : List Name) → AreAround source runs → NoneHears tree source runs
  around-unrun Scope runs none = subst (NoneHears tree Scope) (sym none) tt
  around-unrun (Node y) runs around = deaf-runs y runs around

-- sources above a node are above each node below it
is-above-less : (n k : ℕ) → n < k → (s : SourceRef) → IsAbove k s → IsAbove n s
is-above-less n k less Scope above = tt
is-above-less n k less (Node y) above = omega (arith, less, above)

pub above-less : (n k : ℕ) → n < k → (l : List Scanning) → AreAbove k l → AreAbove n l
above-less n k less [] above = tt
above-less n k less (s ∷ l) above = (is-above-less n k less s.source above.0, above-less n k less l above.1)

-- all scans are above a node that hears the innermost one's source
pub heard-above : (tree : List TreeNode) → IsTree tree → (x : Name) (s : SourceRef) (k : ℕ) (l : List Scanning) → Hears tree s x → AreOuter s l →
    AreAbove x.node (scan_at s k ∷ l)
heard-above tree is x Scope k l heard none = (tt, subst (AreAbove x.node) (sym none) tt)
heard-above tree is x (Node y) k l heard above =
    let low = heard-less tree is x y heard in (low, above-less x.node y.node low l above)

-- the sources to which a scan comes lie less deep
pub heard-deeper : (tree : List TreeNode) → IsTree tree → (x : Name) (source : SourceRef) → Hears tree source x → x.node < length tree →
    depth_of tree (Node x) < depth_of tree source
heard-deeper tree is x Scope heard within = within
heard-deeper tree is x (Node y) heard within = heard-less tree is x y heard

-- what may run around a scan may run around one of a place that hears its source
each-least : (n k : ℕ) → n < k → (runs : List Name) → Each (λ (r : Name). k ≤ r.node) runs → Each (λ (r : Name). n ≤ r.node) runs
each-least n k less [] high = tt
each-least n k less (r ∷ runs) high = (let at = high.0 in omega (arith, less, at), each-least n k less runs high.1)

pub around-heard : (tree : List TreeNode) → IsTree tree → (x : Name) (source : SourceRef) → Hears tree source x → (runs : List Name) →
    AreAround source runs → Each (λ (r : Name). x.node ≤ r.node) runs
around-heard tree is x Scope heard runs none = subst (Each (λ (r : Name). x.node ≤ r.node)) (sym none) tt
around-heard tree is x (Node y) heard runs high = each-least x.node y.node (heard-less tree is x y heard) runs high
