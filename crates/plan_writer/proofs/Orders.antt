-- The order of a file: what stands below a node is numbered just before it.
use Rattle.std.specs.Prelude.{slice_get}
use Rattle.std.specs.List.{flat_map, range_with_len}
use Rattle.std.specs.Option.{option_map_or}
use Rattle.std.proofs.Common.{◌≡◌, ℕ, zero, suc, ◌+◌, ◌-◌, ◌<◌, List, [], ◌∷◌, ◌++◌, All, length, length-append, Some, refl, sym, ap, ◌∙◌, arith}
use Rattle.std.proofs.lemmas.Grind.{flat_map-append}
use Rattle.std.proofs.lemmas.List.Elements.{All-head, All-tail, All-weaker}
use Rattle.std.proofs.lemmas.List.FromFn.{length-range_with_len}
use Rattle.std.proofs.lemmas.Option.{slice_get_within}
use Rattle.plan_rules.specs.declared.node.Node.{Node}
use Rattle.plan_rules.specs.declared.node.Node.TheVariants.{Part}
use Rattle.plan_rules.specs.Children.{named_by}
use Rattle.plan_rules.specs.Tables.{table}
use Rattle.plan_shape.specs.Children.{children_of, children_at, part_count}
use Rattle.plan_shape.specs.Forest.{IsForest}
use Rattle.plan_shape.proofs.DepthLemmas.{table-at}
use Rattle.plan_writer.specs.Order.{file_order}

-- a range that is cut in two
pub record IsCut (xs ys : List ℕ) (a : ℕ) : Type 0 where
  pub front : xs ≡ range_with_len a (length xs)
  pub back : ys ≡ range_with_len (a + length xs) (length ys)

pub range-cut : (xs ys : List ℕ) (a n : ℕ) → xs ++ ys ≡ range_with_len a n → IsCut xs ys a
range-cut [] ys a n e =
    let count : length ys ≡ n = ap length e ∙ length-range_with_len a n in
    let start : a ≡ a + 0 = omega arith in
    record {
      front = refl;
      back = e ∙ ap (range_with_len a) (sym count) ∙ ap (λ k. range_with_len k (length ys)) start;
    }
range-cut (x ∷ xs) ys a zero e = absurd (cc)
range-cut (x ∷ xs) ys a (suc n) e =
    let head : x ≡ a = cc in
    let tail : xs ++ ys ≡ range_with_len (a + 1) n = cc in
    let rest = range-cut xs ys (a + 1) n tail in
    let start : (a + 1) + length xs ≡ a + suc (length xs) = omega arith in
    record {
      front = ap (λ k. k ∷ xs) head ∙ ap (λ ks. a ∷ ks) rest.front;
      back = rest.back ∙ ap (λ k. range_with_len k (length ys)) start;
    }

flat_map-same : (f g : ℕ → List ℕ) (xs : List ℕ) → All (λ k. f k ≡ g k) xs → flat_map f xs ≡ flat_map g xs
flat_map-same f g [] same = refl
flat_map-same f g (x ∷ xs) same =
    ap (λ ys. ys ++ flat_map f xs) (All-head (λ k. f k ≡ g k) x xs same)
    ∙ ap (λ ys. g x ++ ys) (flat_map-same f g xs (All-tail (λ k. f k ≡ g k) x xs same))

abbrev order_step : List Node → ℕ → (ℕ → List ℕ) → List ℕ
order_step nodes m order = flat_map order (children_at nodes m) ++ m ∷ []

module _ (nodes : List Node) (forest : IsForest nodes) where
  -- a node's order comes from those of its children
  pub file_order-at : (n : ℕ) (node : Node) → slice_get nodes n ≡ Some node
      → file_order nodes n ≡ flat_map (file_order nodes) (children_of n node) ++ n ∷ []
  file_order-at n node at =
      let within = slice_get_within nodes n node at in
      let step : ℕ → (ℕ → List ℕ) → List ℕ = order_step nodes in
      let before : ℕ → List ℕ = table [] step n in
      let children : children_at nodes n ≡ children_of n node = ap (λ o. option_map_or (children_of n) o []) at in
      let same : All (λ c. before c ≡ file_order nodes c) (children_of n node) =
      All-weaker (λ c. c < n) (λ c. before c ≡ file_order nodes c)
      (λ c less. table-at [] step n c less ∙ sym (table-at [] step (length nodes) c (omega (arith, less, within))))
      (children_of n node) (forest.each n node at).below in
      table-at [] step (length nodes) n within
      ∙ ap (λ cs. flat_map before cs ++ n ∷ []) children
      ∙ ap (λ ks. ks ++ n ∷ []) (flat_map-same before (file_order nodes) (children_of n node) same)

  -- parts of a bulk have nothing below them
  pub parts-order : (a count bulk from : ℕ)
      → ((i : ℕ) → i < count → slice_get nodes (a + i) ≡ Some (Part bulk (from + i)))
      → flat_map (file_order nodes) (range_with_len a count) ≡ range_with_len a count
  parts-order a zero bulk from parts = refl
  parts-order a (suc count) bulk from parts =
      let here : slice_get nodes a ≡ Some (Part bulk (from + 0)) =
      ap (slice_get nodes) (let e : a ≡ a + 0 = omega arith in e) ∙ parts 0 (omega arith) in
      let rest = parts-order (a + 1) count bulk (from + 1) (λ i less.
      let place : (a + 1) + i ≡ a + (i + 1) = omega arith in
      let part : from + (i + 1) ≡ (from + 1) + i = omega arith in
      ap (slice_get nodes) place ∙ parts (i + 1) (omega arith) ∙ ap (λ p. Some (Part bulk p)) part) in
      ap (λ ks. ks ++ flat_map (file_order nodes) (range_with_len (a + 1) count)) (file_order-at a (Part bulk (from + 0)) here)
      ∙ ap (λ ks. a ∷ ks) rest

  -- what stands below the children that a node names comes first, then the node's parts, then the node
  pub record IsNumbered (n : ℕ) (node : Node) (first : ℕ) : Type 0 where
    pub count : ℕ
    pub named : flat_map (file_order nodes) (named_by node) ≡ range_with_len first count
    pub place : first + count + part_count node ≡ n

  pub numbered : (n : ℕ) (node : Node) → slice_get nodes n ≡ Some node → (first size : ℕ)
      → file_order nodes n ≡ range_with_len first size → IsNumbered n node first
  numbered n node at first size order =
      let O : ℕ → List ℕ = file_order nodes in
      let start : ℕ = n - part_count node in
      let parts : List ℕ = range_with_len start (part_count node) in
      let whole : (flat_map O (named_by node) ++ parts) ++ n ∷ [] ≡ range_with_len first size =
      ap (λ ks. (flat_map O (named_by node) ++ ks) ++ n ∷ [])
      (sym (parts-order start (part_count node) n 0 (λ i less.
      let part : i ≡ 0 + i = omega arith in
      (forest.each n node at).parts i less ∙ ap (λ p. Some (Part n p)) part)))
      ∙ ap (λ ks. ks ++ n ∷ []) (sym (flat_map-append O (named_by node) parts))
      ∙ sym (file_order-at n node at) ∙ order in
      let last = range-cut (flat_map O (named_by node) ++ parts) (n ∷ []) first size whole in
      let both = range-cut (flat_map O (named_by node)) parts first (length (flat_map O (named_by node) ++ parts)) last.front in
      let is : n ≡ first + length (flat_map O (named_by node) ++ parts) = cc (last.back) in
      record {
        count = length (flat_map O (named_by node));
        named = both.front;
        place = omega (arith, is, length-append (flat_map O (named_by node)) parts, length-range_with_len start (part_count node));
      }

  -- the last of a node's order is the node
  pub order-end : (n : ℕ) (node : Node) → slice_get nodes n ≡ Some node → (first size : ℕ)
      → file_order nodes n ≡ range_with_len first size → first + size ≡ n + 1
  order-end n node at first size order =
      let front : List ℕ = flat_map (file_order nodes) (children_of n node) in
      let whole : front ++ n ∷ [] ≡ range_with_len first size = sym (file_order-at n node at) ∙ order in
      let last = range-cut front (n ∷ []) first size whole in
      let is : n ≡ first + length front = cc (last.back) in
      omega (arith, is, ap length whole, length-append front (n ∷ []), length-range_with_len first size)
