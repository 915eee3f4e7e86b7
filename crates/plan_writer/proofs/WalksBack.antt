-- A walk over a node's object makes the nodes below it and then the node, behind those before them.
use Rattle.std.specs.Prelude.{◌==◌, slice_get}
use Rattle.std.specs.List.{flat_map, range_with_len}
use Rattle.std.specs.Option.{option_map_or}
use Rattle.std.proofs.Common.{◌≡◌, ℕ, zero, suc, ◌+◌, ◌<◌, ◌≤◌, true, false, List, [], ◌∷◌, ◌++◌, All, length, map, append_assoc, append-nil, length-append, Some, sym, ap, ◌∙◌, subst, arith}
use Rattle.std.proofs.lemmas.Bool.{and_from, false≢true}
use Rattle.std.proofs.lemmas.List.{length-take-le}
use Rattle.std.proofs.lemmas.List.Elements.{All-nil, All-cons, All-head, All-tail, All-weaker}
use Rattle.std.proofs.lemmas.List.FromFn.{length-range_with_len}
use Rattle.std.proofs.lemmas.Option.{same_Some, slice_get_within}
use Rattle.serde_json.specs.Data.{Items}
use Rattle.serde_json.specs.View.{items_of}
use Rattle.common_lemmas.proofs.Bool.{either}
use Rattle.plan_rules.specs.declared.node.Node.{Node}
use Rattle.plan_rules.specs.Children.{named_by}
use Rattle.plan_shape.specs.Blueprint.{Blueprint, IsPlan}
use Rattle.plan_shape.specs.Children.{part_count}
use Rattle.plan_shape.specs.Conditions.{MeetsConditions}
use Rattle.plan_shape.specs.Depths.{depth_of}
use Rattle.plan_shape.specs.Finish.{is_of_version_2}
use Rattle.plan_shape.proofs.DepthLemmas.{depth_of-positive}
use Rattle.plan_reader.specs.Walked.{Walked, Listed, each, last, make, made, walk}
use Rattle.plan_writer.specs.declared.below.Below.{Below}
use Rattle.plan_writer.specs.declared.below.Below.TheVariants as below
use Rattle.plan_writer.specs.Held.{IsHeldNode}
use Rattle.plan_writer.specs.Nodes.{below_of, children_named, listed, node_data}
use Rattle.plan_writer.specs.Order.{IsWritten, file_order}
use Rattle.plan_writer.specs.ReadBack.{IsReadBack, walked_to}
use Rattle.plan_writer.proofs.Shapes.{IsBelow, named-below, named-written, node_data-at}
use Rattle.plan_writer.proofs.Orders.{numbered, order-end, range-cut}
use Rattle.plan_writer.proofs.Prefixes.{depth-above, no-limit, with-node}
use Rattle.plan_writer.proofs.Small.{node-small}
use Rattle.plan_writer.proofs.NodesBack.{AreNumbered, after_children, node-walked, walk_list}

module _ (plan : Blueprint) (is_plan : IsPlan plan) where
  abbrev order : ℕ → List ℕ
  order = file_order plan.nodes

  -- a node, and a child of a node that is walked with so many levels left
  abbrev IsWalkable : ℕ → ℕ → Type 0
  IsWalkable levels c = IsWritten plan.nodes c × (depth_of plan.nodes c ≤ levels)

  last-walked : (k : ℕ) → k < length plan.nodes → last (walked_to plan (k + 1)) ≡ k
  last-walked k less = omega (arith, length-take-le (k + 1) plan.nodes (omega (arith, less)))

  -- one child
  child-back : (c levels : ℕ) → IsReadBack plan c → IsWalkable levels c → (first size : ℕ)
      → order c ≡ range_with_len first size
      → (first + size ≡ c + 1) × (walk levels (node_data plan.nodes c) (walked_to plan first) ≡ walked_to plan (first + size))
      × (last (walked_to plan (first + size)) ≡ c)
  child-back c levels back walkable first size is =
      let at = walkable.0.1 in
      let end = order-end plan.nodes is_plan.forest c walkable.0.0 at first size is in (
        end,
        back.walked first size levels is walkable.1 ∙ ap (walked_to plan) (sym end),
        ap (λ k. last (walked_to plan k)) end ∙ last-walked c (slice_get_within plan.nodes c walkable.0.0 at),
      )

  -- the children of an array
  list-back : (list numbers : List ℕ) (levels : ℕ) → All (IsReadBack plan) list → All (IsWalkable levels) list
      → (first size : ℕ) → flat_map order list ≡ range_with_len first size
      → each (walk levels) (items_of (map (node_data plan.nodes) list)) (record { walked = walked_to plan first; numbers = numbers })
      ≡ record { walked = walked_to plan (first + size); numbers = numbers ++ list }
  list-back [] numbers levels back walkable first size is =
      let none : size ≡ 0 = sym (length-range_with_len first size) ∙ sym (ap length is) in
      let stays : first ≡ first + size = omega (arith, none) in
      ap (λ k. record { walked = walked_to plan k; numbers = numbers }) stays
      ∙ ap (λ ks. record { walked = walked_to plan (first + size); numbers = ks }) (sym (append-nil numbers))
  list-back (c ∷ cs) numbers levels back walkable first size is =
      let cut = range-cut (order c) (flat_map order cs) first size is in
      let here = child-back c levels (All-head (IsReadBack plan) c cs back) (All-head (IsWalkable levels) c cs walkable)
      first (length (order c)) cut.front in
      let next : ℕ = first + length (order c) in
      let rest : Items = items_of (map (node_data plan.nodes) cs) in
      let end : next + length (flat_map order cs) ≡ first + size =
      omega (arith, length-append (order c) (flat_map order cs), ap length is, length-range_with_len first size) in
      ap (λ (w : Walked). each (walk levels) rest (record { walked = w; numbers = numbers ++ last w ∷ [] })) here.1
      ∙ ap (λ k. each (walk levels) rest (record { walked = walked_to plan next; numbers = numbers ++ k ∷ [] })) here.2
      ∙ list-back cs (numbers ++ c ∷ []) levels (All-tail (IsReadBack plan) c cs back) (All-tail (IsWalkable levels) c cs walkable)
      next (length (flat_map order cs)) cut.back
      ∙ ap (λ k. record { walked = walked_to plan k; numbers = (numbers ++ c ∷ []) ++ cs }) end
      ∙ ap (λ ks. record { walked = walked_to plan (first + size); numbers = ks }) (append_assoc numbers (c ∷ []) cs)

  -- all children of a node
  record AreBack (levels : ℕ) (b : Below) (list : List ℕ) (first size : ℕ) : Type 0 where
    walked : after_children (node_data plan.nodes) levels b list (walked_to plan first) ≡ walked_to plan (first + size)
    numbers : AreNumbered (node_data plan.nodes) levels b list (walked_to plan first)

  children-back : (b : Below) (list : List ℕ) (levels : ℕ) → All (IsReadBack plan) (children_named b list)
      → All (IsWalkable levels) (children_named b list) → (first size : ℕ)
      → flat_map order (children_named b list) ≡ range_with_len first size → AreBack levels b list first size
  children-back below.Nothing list levels back walkable first size is =
      let none : size ≡ 0 = sym (length-range_with_len first size) ∙ sym (ap length is) in
      record { walked = ap (walked_to plan) (let stays : first ≡ first + size = omega (arith, none) in stays); numbers = tt }
  children-back (below.Child c) list levels back walkable first size is =
      let here = child-back c levels (All-head (IsReadBack plan) c [] back) (All-head (IsWalkable levels) c [] walkable)
      first size (sym (append-nil (order c)) ∙ is) in
      record { walked = here.1; numbers = ap last here.1 ∙ here.2 }
  children-back (below.ChildAndBodies c) list levels back walkable first size is =
      let cut = range-cut (order c) (flat_map order list) first size is in
      let here = child-back c levels (All-head (IsReadBack plan) c list back) (All-head (IsWalkable levels) c list walkable)
      first (length (order c)) cut.front in
      let next : ℕ = first + length (order c) in
      let end : next + length (flat_map order list) ≡ first + size =
      omega (arith, length-append (order c) (flat_map order list), ap length is, length-range_with_len first size) in
      let more = ap (walk_list (node_data plan.nodes) levels list) here.1
      ∙ list-back list [] levels (All-tail (IsReadBack plan) c list back) (All-tail (IsWalkable levels) c list walkable)
      next (length (flat_map order list)) cut.back in
      record {
        walked = ap (λ (l : Listed). l.walked) more ∙ ap (walked_to plan) end;
        numbers = (ap last here.1 ∙ here.2, ap (λ (l : Listed). l.numbers) more);
      }
  children-back below.Children list levels back walkable first size is =
      let more = list-back list [] levels back walkable first size is in
      record { walked = ap (λ (l : Listed). l.walked) more; numbers = ap (λ (l : Listed). l.numbers) more }
  children-back (below.Pair a b) list levels back walkable first size is =
      let cut = range-cut (order a) (order b ++ []) first size is in
      let front = child-back a levels (All-head (IsReadBack plan) a (b ∷ []) back)
      (All-head (IsWalkable levels) a (b ∷ []) walkable) first (length (order a)) cut.front in
      let next : ℕ = first + length (order a) in
      let second = child-back b levels (All-head (IsReadBack plan) b [] (All-tail (IsReadBack plan) a (b ∷ []) back))
      (All-head (IsWalkable levels) b [] (All-tail (IsWalkable levels) a (b ∷ []) walkable)) next (length (order b ++ []))
      (sym (append-nil (order b)) ∙ cut.back) in
      let end : next + length (order b ++ []) ≡ first + size =
      omega (arith, length-append (order a) (order b ++ []), ap length is, length-range_with_len first size) in
      let both = ap (λ (w : Walked). walk levels (node_data plan.nodes b) w) front.1 ∙ second.1 in
      record {
        walked = both ∙ ap (walked_to plan) end;
        numbers = (ap last front.1 ∙ front.2, ap last both ∙ second.2);
      }

  -- children stand before what comes behind them
  list-before : (list : List ℕ) → All (IsWritten plan.nodes) list → (first size : ℕ)
      → flat_map order list ≡ range_with_len first size → All (λ c. c < first + size) list
  list-before [] written first size is = All-nil (λ c. c < first + size)
  list-before (c ∷ cs) written first size is =
      let cut = range-cut (order c) (flat_map order cs) first size is in
      let here = All-head (IsWritten plan.nodes) c cs written in
      let end = order-end plan.nodes is_plan.forest c here.0 here.1 first (length (order c)) cut.front in
      let both = length-append (order c) (flat_map order cs) in
      let all = ap length is ∙ length-range_with_len first size in
      All-cons (λ k. k < first + size) c cs (omega (arith, end, both, all))
      (All-weaker (λ k. k < (first + length (order c)) + length (flat_map order cs)) (λ k. k < first + size)
      (λ k less. omega (arith, less, both, all)) cs
      (list-before cs (All-tail (IsWritten plan.nodes) c cs written) (first + length (order c)) (length (flat_map order cs)) cut.back))

  -- a node behind those before it
  make-next : (n m : ℕ) (node : Node) → slice_get plan.nodes n ≡ Some node → m + part_count node ≡ n
      → All (λ c. c < m) (named_by node) → make node (walked_to plan m) ≡ walked_to plan (n + 1)
  unfolding make
  make-next n m node at place before =
      ap (λ o. made o node (walked_to plan m)) (no-limit plan.nodes is_plan.forest n m node at place before)
      ∙ ap (λ (ns : List Node). record (walked_to plan m) { nodes = ns }) (with-node plan.nodes is_plan.forest n m node at place before)

  -- only plans of version 2 have nodes of version 2
  old-enough : (n : ℕ) (node : Node) → slice_get plan.nodes n ≡ Some node → is_of_version_2 node ≡ true
      → (plan.settings.version == 1) ≡ false
  old-enough n node at new =
      let passes : option_map_or is_of_version_2 (slice_get plan.nodes n) false ≡ true =
      ap (λ o. option_map_or is_of_version_2 o false) at ∙ new in
      let old = is_plan.old_enough n (slice_get_within plan.nodes n node at) in
      either (plan.settings.version == 1)
      (λ first. absurd (false≢true (sym old ∙ and_from (plan.settings.version == 1) _ first passes)))
      (λ later. later)

  pub node-back : (n : ℕ) (node : Node) → slice_get plan.nodes n ≡ Some node → MeetsConditions node → IsHeldNode node
      → All (IsReadBack plan) (named_by node) → (first size levels : ℕ) → order n ≡ range_with_len first size
      → depth_of plan.nodes n ≤ levels
      → walk levels (node_data plan.nodes n) (walked_to plan first) ≡ walked_to plan (n + 1)
  node-back n node at meets held back first size zero is deep =
      absurd (omega (arith, deep, depth_of-positive plan.nodes n (slice_get_within plan.nodes n node at)))
  node-back n node at meets held back first size (suc levels) is deep =
      let b : Below = below_of node in
      let list : List ℕ = listed node in
      let shape = named-below node in
      let stand = numbered plan.nodes is_plan.forest n node at first size is in
      let written = named-written plan is_plan n node at in
      let less : All (λ c. c < n) (named_by node) =
      All-weaker (IsBelow plan.nodes n) (λ c. c < n) (λ c below. below.1) (named_by node) written in
      let each_written : All (IsWritten plan.nodes) (named_by node) =
      All-weaker (IsBelow plan.nodes n) (IsWritten plan.nodes) (λ c below. below.0) (named_by node) written in
      let deeper = depth-above plan.nodes is_plan.forest n node at in
      let walkable : All (IsWalkable levels) (named_by node) =
      (λ k d within. (each_written k d within, let one = deeper k d within in omega (arith, one, deep))) in
      let Q : (ℕ → Type 0) → List ℕ → Type 0 = λ P ks. All P ks in
      let below_back = children-back b list levels (subst (Q (IsReadBack plan)) shape back)
      (subst (Q (IsWalkable levels)) shape walkable) first stand.count
      (ap (flat_map order) (sym shape) ∙ stand.named) in
      let before = list-before (named_by node) each_written first stand.count stand.named in
      ap (λ d. walk (suc levels) d (walked_to plan first)) (node_data-at plan.nodes n node at less)
      ∙ node-walked node (node_data plan.nodes) levels (walked_to plan first) meets held (old-enough n node at) below_back.numbers
      ∙ ap (make node) below_back.walked
      ∙ make-next n (first + stand.count) node at stand.place before

  -- all that is asked of a node's object
  pub node-reads : (n : ℕ) (node : Node) → slice_get plan.nodes n ≡ Some node → IsWritten plan.nodes n → IsHeldNode node
      → All (IsReadBack plan) (children_named (below_of node) (listed node)) → IsReadBack plan n
  node-reads n node at written held below =
      let P : List ℕ → Type 0 = All (IsReadBack plan) in
      let back = subst P (sym (named-below node)) below in
      let meets = subst MeetsConditions (same_Some written.0 node (sym written.1 ∙ at)) written.2 in
      let small = node-small plan is_plan n node at back in
      record {
        whole_numbers = small.whole;
        shallow = small.shallow;
        walked = node-back n node at meets held back;
      }
