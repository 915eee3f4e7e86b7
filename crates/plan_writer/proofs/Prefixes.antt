-- The nodes before a node, to which a builder of plans would add it.
use Rattle.std.specs.Prelude.{nat_lt, slice_get, fold, Contains}
use Rattle.std.specs.List.{range_with_len}
use Rattle.std.specs.Option.{option_or, option_map_or}
use Rattle.std.proofs.Common.{◌≡◌, ℕ, zero, suc, ◌+◌, ◌-◌, ◌<◌, ◌≤◌, max, true, not, List, [], ◌∷◌, ◌++◌, All, length, map, take, drop, append_assoc, Option, Some, None, sym, ap, ◌∙◌, subst, arith}
use Rattle.std.proofs.lemmas.Bool.{le-ltb}
use Rattle.std.proofs.lemmas.List.{append-nil, take-append-drop, length-take-le, take_more}
use Rattle.std.proofs.lemmas.List.Elements.{All-cons, All-weaker, All-nil, All-contains, All-contains_itself, Contains-append_left}
use Rattle.std.proofs.lemmas.List.FromFn.{map-range_with_len_more}
use Rattle.std.proofs.lemmas.Option.{slice_get_within, get_or_from_slice_get}
use Rattle.plan_rules.specs.declared.node.Node.{Node}
use Rattle.plan_rules.specs.declared.node.Node.TheVariants.{Part}
use Rattle.plan_rules.specs.Children.{named_by}
use Rattle.plan_shape.specs.declared.fault.BuildFault.{BuildFault}
use Rattle.plan_shape.specs.declared.fault.BuildFault.TheVariants.{TooDeep, TooManyChildren, TooManyNodes}
use Rattle.plan_shape.specs.declared.limits.TheConstants.{MOST_DEPTH, MOST_PLAN_NODES}
use Rattle.plan_shape.specs.Added.{parts_of, with_node}
use Rattle.plan_shape.specs.Children.{children_of, children_at, part_count}
use Rattle.plan_shape.specs.Conditions.{has_lawful_count}
use Rattle.plan_shape.specs.Depths.{depth_of, depth_over}
use Rattle.plan_shape.specs.Forest.{IsForest}
use Rattle.plan_shape.specs.Refusals.{fault_if}
use Rattle.plan_shape.proofs.DepthLemmas.{depth_of-append, depth_of-at}
use Rattle.plan_shape.proofs.ListLemmas.{map-same}
use Rattle.plan_builder.proofs.RefusalLemmas.{depth_over-append, fold-max}
use Rattle.plan_reader.specs.Limits.{node_limit}

-- none of these numbers is above the most of them
pub below-most : (f : ℕ → ℕ) (xs : List ℕ) → All (λ x. f x ≤ fold max 0 (map f xs)) xs
below-most f [] = All-nil (λ x. f x ≤ fold max 0 (map f []))
below-most f (x ∷ xs) =
    let most : fold max 0 (map f (x ∷ xs)) ≡ max (max 0 (f x)) (fold max 0 (map f xs)) = fold-max (max 0 (f x)) (map f xs) in
    All-cons (λ y. f y ≤ fold max 0 (map f (x ∷ xs))) x xs (omega (arith, most))
    (All-weaker (λ y. f y ≤ fold max 0 (map f xs)) (λ y. f y ≤ fold max 0 (map f (x ∷ xs)))
    (λ y less. omega (arith, less, most)) xs (below-most f xs))

-- consecutive nodes
take-parts : (nodes : List Node) (m count : ℕ) (f : ℕ → Node)
    → ((i : ℕ) → i < count → slice_get nodes (m + i) ≡ Some (f i))
    → take (m + count) nodes ≡ take m nodes ++ map f (range_with_len 0 count)
take-parts nodes m zero f parts =
    ap (λ k. take k nodes) (let e : m + 0 ≡ m = omega arith in e) ∙ sym (append-nil (take m nodes))
take-parts nodes m (suc count) f parts =
    let place : m + suc count ≡ (m + count) + 1 = omega arith in
    let here = parts count (omega arith) in
    let more : map f (range_with_len 0 (count + 1)) ≡ map f (range_with_len 0 count) ++ f count ∷ [] =
    map-range_with_len_more f 0 count count (omega arith) in
    let size : count + 1 ≡ suc count = omega arith in
    ap (λ k. take k nodes) place
    ∙ take_more nodes (m + count) (f count) (slice_get_within nodes (m + count) (f count) here)
    ∙ ap (λ x. take (m + count) nodes ++ x ∷ []) (get_or_from_slice_get nodes (m + count) (f count) (f count) here)
    ∙ ap (λ xs. xs ++ f count ∷ []) (take-parts nodes m count f (λ i less. parts i (omega arith)))
    ∙ append_assoc (take m nodes) (map f (range_with_len 0 count)) (f count ∷ [])
    ∙ ap (λ xs. take m nodes ++ xs) (sym more)
    ∙ ap (λ k. take m nodes ++ map f (range_with_len 0 k)) size

module _ (nodes : List Node) (forest : IsForest nodes) where
  -- a child is less deep than its parent
  pub depth-above : (n : ℕ) (node : Node) → slice_get nodes n ≡ Some node
      → All (λ c. depth_of nodes c + 1 ≤ depth_of nodes n) (named_by node)
  depth-above n node at =
      let children : children_at nodes n ≡ children_of n node = ap (λ o. option_map_or (children_of n) o []) at in
      let before : All (λ c. c < n) (children_at nodes n) =
      subst (λ cs. All (λ c. c < n) cs) (sym children) (forest.each n node at).below in
      let depth : depth_of nodes n ≡ depth_over (depth_of nodes) (children_of n node) =
      depth_of-at nodes n (slice_get_within nodes n node at) before ∙ ap (depth_over (depth_of nodes)) children in
      All-weaker (Contains (named_by node)) (λ c. depth_of nodes c + 1 ≤ depth_of nodes n)
      (λ k among.
      let less = All-contains (λ c. depth_of nodes c ≤ fold max 0 (map (depth_of nodes) (children_of n node)))
      (children_of n node) k (below-most (depth_of nodes) (children_of n node))
      (Contains-append_left (named_by node) (range_with_len (n - part_count node) (part_count node)) k among) in
      omega (arith, less, depth))
      (named_by node) (All-contains_itself (named_by node))

  module _ (n m : ℕ) (node : Node) (at : slice_get nodes n ≡ Some node) (place : m + part_count node ≡ n)
      (named : All (λ c. c < m) (named_by node)) where
    within : n < length nodes
    within = slice_get_within nodes n node at

    size : length (take m nodes) ≡ m
    size = length-take-le m nodes (omega (arith, within, place))

    whole : take m nodes ++ drop m nodes ≡ nodes
    whole = take-append-drop m nodes

    depth-same : (k : ℕ) → k < m → depth_of (take m nodes) k ≡ depth_of nodes k
    depth-same k less =
        let longer : length (take m nodes) ≤ length (take m nodes ++ drop m nodes) =
        omega (arith, size, within, place, ap (λ (xs : List Node). length xs) whole) in
        sym (depth_of-append (take m nodes) (drop m nodes) k (omega (arith, less, size)) longer)
        ∙ ap (λ xs. depth_of xs k) whole

    -- it is as deep as among all nodes
    shallow : depth_over (depth_of (take m nodes)) (named_by node) ≤ MOST_DEPTH
    shallow =
        let front : List ℕ = named_by node in
        let back : List ℕ = range_with_len (n - part_count node) (part_count node) in
        let children : children_at nodes n ≡ front ++ back = ap (λ o. option_map_or (children_of n) o []) at in
        let before : All (λ c. c < n) (children_at nodes n) =
        subst (λ cs. All (λ c. c < n) cs) (sym children) (forest.each n node at).below in
        let depth = depth_of-at nodes n within before ∙ ap (depth_over (depth_of nodes)) children
        ∙ depth_over-append (depth_of nodes) front back in
        let same : map (depth_of (take m nodes)) front ≡ map (depth_of nodes) front =
        map-same (depth_of (take m nodes)) (depth_of nodes) front
        (All-weaker (λ c. c < m) (λ c. depth_of (take m nodes) c ≡ depth_of nodes c) depth-same front named) in
        let most = (forest.each n node at).shallow in
        omega (arith, depth, most, ap (λ ds. fold max 0 ds) same)

    -- it passes no limit
    pub no-limit : node_limit (take m nodes) node ≡ None
    no-limit =
        let depth : ℕ = depth_over (depth_of (take m nodes)) (named_by node) in
        let size_with : ℕ = length (take m nodes) + part_count node + 1 in
        let deep : Option BuildFault = fault_if (nat_lt MOST_DEPTH depth) TooDeep in
        let count : has_lawful_count node ≡ true = (forest.each n node at).count in
        let few : size_with ≤ MOST_PLAN_NODES =
        let most = forest.few in omega (arith, size, place, within, most) in
        ap (λ b. option_or (fault_if (not b) TooManyChildren)
        (option_or (fault_if (nat_lt MOST_PLAN_NODES size_with) TooManyNodes) deep)) count
        ∙ ap (λ b. option_or (fault_if b TooManyNodes) deep) (le-ltb MOST_PLAN_NODES size_with few)
        ∙ ap (λ b. fault_if b TooDeep) (le-ltb MOST_DEPTH depth shallow)

    -- and with it they are the nodes up to it
    pub with-node : with_node (take m nodes) node ≡ take (n + 1) nodes
    with-node =
        let number : length (take m nodes) + part_count node ≡ n = omega (arith, size, place) in
        let start : n - part_count node ≡ m = omega (arith, place) in
        let parts : take (m + part_count node) nodes ≡ take m nodes ++ parts_of n (part_count node) =
        take-parts nodes m (part_count node) (λ part. Part n part) (λ i less.
        ap (λ k. slice_get nodes (k + i)) (sym start) ∙ (forest.each n node at).parts i less) in
        ap (λ k. take m nodes ++ (parts_of k (part_count node) ++ node ∷ [])) number
        ∙ sym (append_assoc (take m nodes) (parts_of n (part_count node)) (node ∷ []))
        ∙ ap (λ xs. xs ++ node ∷ []) (sym parts)
        ∙ ap (λ k. take k nodes ++ node ∷ []) place
        ∙ ap (λ x. take n nodes ++ x ∷ []) (sym (get_or_from_slice_get nodes n node node at))
        ∙ sym (take_more nodes n node within)
