-- Numbers that count up, and the order of a node by its children.
use Rattle.std.specs.Prelude.{nat_eq, slice_get}
use Rattle.std.specs.List.{flat_map, list_any, range_with_len}
use Rattle.std.proofs.Common.{◌≡◌, true, ℕ, zero, suc, ◌+◌, ◌-◌, ◌<◌, ◌≤◌, List, [], ◌∷◌, ◌++◌, get_or, length, append_assoc, Some, sym, ap, ◌∙◌, inl, inr, arith}
use Rattle.std.proofs.lemmas.Grind.{flat_map-append}
use Rattle.std.proofs.lemmas.List.{map-id}
use Rattle.std.proofs.lemmas.List.Folds.{list_any-append}
use Rattle.std.proofs.lemmas.Bool.{cases_lt, or_right}
use Rattle.std.proofs.lemmas.List.FromFn.{fill_by_all, length-range_with_len, get_or-range_with_len}
use Rattle.plan_rules.specs.declared.node.Node.{Node}
use Rattle.plan_rules.specs.declared.node.Node.TheVariants.{Part}
use Rattle.plan_rules.specs.Children.{named_by}
use Rattle.plan_shape.specs.Children.{children_of, part_count}
use Rattle.plan_shape.specs.Forest.{IsForest}
use Rattle.plan_shape.proofs.ListLemmas.{member_all, range_member}
use Rattle.plan_writer.specs.Nodes.{below_of, children_named, listed}
use Rattle.plan_writer.specs.Order.{file_order}
use Rattle.plan_writer.proofs.Orders.{file_order-at, parts-order}
use Rattle.plan_writer.proofs.Shapes.{named-below}

pub counts-up : (xs : List ℕ) (bound : ℕ) → length xs ≡ bound → ((k : ℕ) → k < length xs → get_or xs k 0 ≡ k)
    → xs ≡ range_with_len 0 bound
counts-up xs bound size each =
    fill_by_all (λ k. k) xs bound 0 size (λ k less. each k (omega (arith, less, size))) ∙ map-id (range_with_len 0 bound)

pub counted-at : (xs : List ℕ) (bound k : ℕ) → xs ≡ range_with_len 0 bound → k < length xs → get_or xs k 0 ≡ k
counted-at xs bound k is less =
    let size : length xs ≡ bound = ap length is ∙ length-range_with_len 0 bound in
    ap (λ ys. get_or ys k 0) is ∙ get_or-range_with_len 0 bound k 0 (omega (arith, less, size)) ∙ omega arith

-- one number more
range-more : (a count : ℕ) → range_with_len a (count + 1) ≡ range_with_len a count ++ (a + count) ∷ []
range-more a zero = ap (λ k. k ∷ []) (let e : a ≡ a + 0 = omega arith in e)
range-more a (suc count) =
    let size : suc count + 1 ≡ suc (count + 1) = omega arith in
    let place : (a + 1) + count ≡ a + suc count = omega arith in
    ap (range_with_len a) size
    ∙ ap (λ ks. a ∷ ks) (range-more (a + 1) count)
    ∙ ap (λ k. a ∷ (range_with_len (a + 1) count ++ k ∷ [])) place

pub part-more : (old : List ℕ) (a part : ℕ) → a ≤ part
    → (old ++ range_with_len a (part - a)) ++ part ∷ [] ≡ old ++ range_with_len a (part + 1 - a)
part-more old a part from =
    let here : part ≡ a + (part - a) = omega (arith, from) in
    let size : (part - a) + 1 ≡ part + 1 - a = omega (arith, from) in
    append_assoc old (range_with_len a (part - a)) (part ∷ [])
    ∙ ap (λ k. old ++ (range_with_len a (part - a) ++ k ∷ [])) here
    ∙ ap (λ ks. old ++ ks) (sym (range-more a (part - a)))
    ∙ ap (λ k. old ++ range_with_len a k) size

-- a bulk's parts stand before it
pub parts-fit : (nodes : List Node) → IsForest nodes → (n : ℕ) (node : Node) → slice_get nodes n ≡ Some node
    → part_count node ≤ n
parts-fit nodes forest n node at =
    let count : ℕ = part_count node in
    let parts : List ℕ = range_with_len (n - count) count in
    elim (cases_lt n count) [
      | inl few ↦
          let last : ℕ = count - 1 in
          let among : list_any (nat_eq last) (children_of n node) ≡ true =
          list_any-append (nat_eq last) (named_by node) parts
          ∙ or_right (list_any (nat_eq last) (named_by node)) (list_any (nat_eq last) parts)
          (range_member (n - count) count last (omega (arith, few)) (omega (arith, few))) in
          let less = member_all (λ c. c < n) (children_of n node) last (forest.each n node at).below among in
          absurd (omega (arith, less, few))
      | inr fits ↦ fits
    ]

-- a node's order, by where its object says its children
pub order-by_children : (nodes : List Node) → IsForest nodes → (n : ℕ) (node : Node) → slice_get nodes n ≡ Some node
    → (old : List ℕ)
    → ((old ++ flat_map (file_order nodes) (children_named (below_of node) (listed node)))
    ++ range_with_len (n - part_count node) (part_count node)) ++ n ∷ []
    ≡ old ++ file_order nodes n
order-by_children nodes forest n node at old =
    let O : ℕ → List ℕ = file_order nodes in
    let front : List ℕ = flat_map O (children_named (below_of node) (listed node)) in
    let parts : List ℕ = range_with_len (n - part_count node) (part_count node) in
    let named : front ≡ flat_map O (named_by node) = ap (flat_map O) (sym (named-below node)) in
    let below : flat_map O parts ≡ parts =
    parts-order nodes forest (n - part_count node) (part_count node) n 0 (λ i less.
    let part : i ≡ 0 + i = omega arith in
    (forest.each n node at).parts i less ∙ ap (λ p. Some (Part n p)) part) in
    let whole : (front ++ parts) ++ n ∷ [] ≡ file_order nodes n =
    ap (λ ks. (ks ++ parts) ++ n ∷ []) named
    ∙ ap (λ ks. (flat_map O (named_by node) ++ ks) ++ n ∷ []) (sym below)
    ∙ ap (λ ks. ks ++ n ∷ []) (sym (flat_map-append O (named_by node) parts))
    ∙ sym (file_order-at nodes forest n node at) in
    ap (λ ks. ks ++ n ∷ []) (append_assoc old front parts)
    ∙ append_assoc old (front ++ parts) (n ∷ [])
    ∙ ap (λ ks. old ++ ks) whole
