-- How many children of a node are done: where each that was done is so still, no fewer. And never more than it has.
use Rattle.std.proofs.Common.{◌≡◌, ℕ, zero, suc, ◌*◌, ◌≤◌, Bool, true, false, List, ◌∷◌, length, refl, ap, arith}
use Rattle.std.proofs.lemmas.Bool.{cond-true, cond-false}
use Rattle.node_tree.specs.declared.node.TreeNode.{TreeNode}
use Rattle.node_tree.specs.Tree.{is_child}
use Rattle.common_lemmas.specs.Sums.{one, total}
use Rattle.common_lemmas.proofs.Bool.{either, one-most}
use Rattle.common_lemmas.proofs.Totals.{total-most}
use Rattle.table_steps.specs.Kids.{children_below}

times-more : (c a b : Bool) → (c ≡ true → a ≡ true → b ≡ true) → one c * one a ≤ one c * one b
times-more false a b more = omega arith
times-more true false b more = omega arith
times-more true true b more = let is : one b ≡ 1 = ap one (more refl refl) in omega (arith, is)

-- of those that a test picks, no fewer pass the second test than the first
pub done-more : (own a b : ℕ → Bool) (n : ℕ) → ((k : ℕ) → own k ≡ true → a k ≡ true → b k ≡ true) →
    total (λ k. one (own k) * one (a k)) n ≤ total (λ k. one (own k) * one (b k)) n
done-more own a b n more = total-most _ _ n (λ k below. times-more (own k) (a k) (b k) (more k))

-- of the children below a node so many pass at most as there are
pub below-most : (tree : List TreeNode) (p : ℕ) (done : ℕ → Bool) (n : ℕ) →
    total (λ k. one (is_child tree p k) * one (done k)) n ≤ length (children_below tree p n)
below-most tree p done zero = omega arith
below-most tree p done (suc n) =
    let old = below-most tree p done n in
    let rest = children_below tree p n in
    let here = one-most (done n) in
    either (is_child tree p n)
    (λ t.
    let count = ap (λ b. one b * one (done n)) t in
    let own = ap length (cond-true (is_child tree p n) (n ∷ rest) rest t) in omega (arith, old, here, count, own))
    (λ f.
    let count = ap (λ b. one b * one (done n)) f in
    let own = ap length (cond-false (is_child tree p n) (n ∷ rest) rest f) in omega (arith, old, count, own))
