-- What a forest tells of its nodes.
use Rattle.std.proofs.Common.{◌≡◌, ℕ, zero, suc, ◌<◌, ◌≤◌, true, List, [], ◌∷◌, length, Some, None, refl, sym, ap, ◌∙◌, arith}
use Rattle.std.specs.Prelude.{nat_eq, slice_get}
use Rattle.std.specs.Option.{option_map_or}
use Rattle.std.specs.List.{list_any}
use Rattle.std.proofs.lemmas.Bool.{false_from_ne_true}
use Rattle.plan_rules.specs.declared.node.Node.{Node}
use Rattle.plan_shape.specs.declared.limits.TheConstants.{MOST_DEPTH}
use Rattle.plan_shape.specs.Children.{children_of, children_at}
use Rattle.plan_shape.specs.Parents.{is_child, parent_of}
use Rattle.plan_shape.specs.Depths.{depth_of}
use Rattle.plan_shape.specs.Forest.{IsForest}
use Rattle.plan_shape.proofs.ListLemmas.{member_all}
use Rattle.plan_shape.proofs.LeastLemmas.{least-IsLeast, least-None}

-- a node of the list
pub node_at : {X G : Type 0} (xs : List X) (n : ℕ) → n < length xs → ((x : X) → slice_get xs n ≡ Some x → G) → G
node_at (x ∷ xs) zero l f = f x refl
node_at (x ∷ xs) (suc n) l f = node_at xs n (omega arith) f
node_at [] n l f = absurd (omega arith)

pub shallow_at : (nodes : List Node) (n : ℕ) → IsForest nodes → n < length nodes → depth_of nodes n ≤ MOST_DEPTH
shallow_at nodes n forest l = node_at nodes n l (λ node e. (forest.each n node e).shallow)

-- a number that is no node's has no parent
pub no_parent : (nodes : List Node) (k : ℕ) → IsForest nodes → length nodes ≤ k → parent_of nodes k ≡ None
no_parent nodes k forest l =
    least-None (is_child nodes k) (length nodes) (λ m h.
    false_from_ne_true (is_child nodes k m) (λ t.
    node_at nodes m h (λ node e.
    let at : children_at nodes m ≡ children_of m node = ap (λ o. option_map_or (children_of m) o []) e in
    let below : k < m =
    member_all (λ c. c < m) (children_of m node) k (forest.each m node e).below (ap (list_any (nat_eq k)) (sym at) ∙ t) in
    absurd (omega (arith, l, h, below)))))

-- a parent is a later node
pub parent_later : (nodes : List Node) (n m : ℕ) → IsForest nodes → parent_of nodes n ≡ Some m →
    (n < m) × (m < length nodes)
parent_later nodes n m forest e =
    let found = least-IsLeast (is_child nodes n) (length nodes) m e in
    let before : n < m =
    node_at nodes m found.within (λ node at.
    let named : list_any (nat_eq n) (children_of m node) ≡ true =
    ap (λ o. list_any (nat_eq n) (option_map_or (children_of m) o [])) (sym at) ∙ found.passes in
    member_all (λ c. c < m) (children_of m node) n (forest.each m node at).below named) in
    (before, found.within)
