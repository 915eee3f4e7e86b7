-- A forest with a node that isn't refused is a forest.
use Rattle.std.proofs.Common.{◌≡◌, ℕ, ◌+◌, ◌-◌, ◌<◌, ◌≤◌, max, true, false, List, [], ◌∷◌, ◌++◌, length, map, Some, refl, sym, ap, subst, ◌∙◌, inl, inr, arith}
use Rattle.std.specs.Prelude.{All, fold, nat_eq, slice_get}
use Rattle.std.specs.List.{list_any, range_with_len}
use Rattle.std.proofs.lemmas.Bool.{cases_lt, or_left, eq-eqb}
use Rattle.std.proofs.lemmas.Option.{slice_get_within}
use Rattle.std.proofs.lemmas.List.Elements.{All-nil, All-head, All-tail, All-weaker}
use Rattle.common_lemmas.specs.Lists.{are_different}
use Rattle.plan_rules.specs.declared.node.Node.{Node}
use Rattle.plan_rules.specs.declared.node.Node.TheVariants.{Bulk, Part}
use Rattle.plan_shape.specs.declared.limits.TheConstants.{BULK_PARTS}
use Rattle.plan_rules.specs.Children.{named_by}
use Rattle.plan_shape.specs.Children.{part_count, children_of, children_at}
use Rattle.plan_shape.specs.Parents.{parent_of}
use Rattle.plan_shape.specs.Depths.{depth_over, depth_of}
use Rattle.plan_shape.specs.Conditions.{MeetsConditions}
use Rattle.plan_shape.specs.Added.{number_of, parts_of, with_node}
use Rattle.plan_shape.specs.Forest.{IsForest, IsPlaced, IsMade, IsPartOf}
use Rattle.plan_shape.proofs.ListLemmas.{map-same, all_members, range_below, range_above, different_from_counts, different_range, different-append}
use Rattle.plan_shape.proofs.DepthLemmas.{depth_of-at, depth_of-append, depth_of-positive}
use Rattle.plan_builder.proofs.AddedLemmas.{bulk_or_none, length-with_node, with_node-old, with_node-part, with_node-new, children_at-part, children_at-new, Standing, stands_old, stands_part, stands_new, standing}
use Rattle.plan_builder.proofs.RefusalLemmas.{allowed, lawful, IsAllowed, named_once, fold-max, depth_over-append}
use Rattle.plan_builder.proofs.ForestLemmas.{IsNew, children_of-new, named_within, new_below, new_parent, same_parent}

pub is_allowed : (nodes : List Node) (node : Node) → IsNew nodes node →
    IsAllowed nodes (named_by node) (part_count node)
is_allowed nodes node fresh = allowed nodes (named_by node) (part_count node) (lawful nodes node fresh.allowed).1

-- old nodes keep their depths
pub depth_of-old : (nodes : List Node) (node : Node) (k : ℕ) → k < length nodes →
    depth_of (with_node nodes node) k ≡ depth_of nodes k
depth_of-old nodes node k l =
    depth_of-append nodes (parts_of (number_of nodes node) (part_count node) ++ node ∷ []) k l
    (omega (arith, length-with_node nodes node))

-- parts are leaves
pub depth_of-part : (nodes : List Node) (node : Node) (i : ℕ) → i < part_count node →
    depth_of (with_node nodes node) (length nodes + i) ≡ 1
depth_of-part nodes node i l =
    let whole : List Node = with_node nodes node in
    let n : ℕ = length nodes + i in
    let leaf : children_at whole n ≡ [] = children_at-part nodes node i l in
    depth_of-at whole n (omega (arith, length-with_node nodes node))
    (subst (λ cs. All (λ c. c < n) cs) (sym leaf) (All-nil (λ c. c < n)))
    ∙ ap (depth_over (depth_of whole)) leaf

-- what none of a list passes, the most of them doesn't
most-bound : (f : ℕ → ℕ) (b : ℕ) (xs : List ℕ) → All (λ x. f x ≤ b) xs → fold max 0 (map f xs) ≤ b
most-bound f b [] h = omega arith
most-bound f b (x ∷ xs) h =
    omega (
      arith,
      fold-max (max 0 (f x)) (map f xs),
      All-head (λ y. f y ≤ b) x xs h,
      most-bound f b xs (All-tail (λ y. f y ≤ b) x xs h),
    )

itself : (k : ℕ) → list_any (nat_eq k) (k ∷ []) ≡ true
itself k = or_left (nat_eq k k) false (eq-eqb k k refl)

-- parts beside a child don't make a bulk deeper
parts_no_deeper : (nodes : List Node) (node : Node) → IsNew nodes node →
    max (fold max 0 (map (depth_of nodes) (named_by node)))
    (fold max 0 (map (depth_of (with_node nodes node)) (range_with_len (length nodes) (part_count node))))
    ≡ fold max 0 (map (depth_of nodes) (named_by node))
parts_no_deeper nodes node fresh =
    let whole : List Node = with_node nodes node in
    let parts : List ℕ = range_with_len (length nodes) (part_count node) in
    let most : fold max 0 (map (depth_of whole) parts) ≤ 1 =
    most-bound (depth_of whole) 1 parts (all_members (λ c. depth_of whole c ≤ 1) parts (λ k h.
    elim (cases_lt k (length nodes)) [
      | inl before ↦ absurd (let out = range_below (length nodes) (part_count node) k before in cc)
      | inr from ↦
          elim (cases_lt k (length nodes + part_count node)) [
            | inl within ↦
                let i : ℕ = k - length nodes in
                let is : k ≡ length nodes + i = omega (arith, from) in
                let leaf : depth_of whole k ≡ 1 =
                ap (depth_of whole) is ∙ depth_of-part nodes node i (omega (arith, from, within)) in
                omega (arith, leaf)
            | inr past ↦ absurd (let out = range_above (length nodes) (part_count node) k past in cc)
          ]
    ])) in
    elim (bulk_or_none node) [
      | inl none ↦
          let empty : fold max 0 (map (depth_of whole) parts) ≡ 0 =
          ap (λ n. fold max 0 (map (depth_of whole) (range_with_len (length nodes) n))) none in
          omega (arith, empty)
      | inr bulk ↦
          let child : ℕ = bulk.0 in
          let names : named_by node ≡ child ∷ [] = ap named_by bulk.2 in
          let within : child < length nodes =
          named_within nodes node fresh child (ap (list_any (nat_eq child)) names ∙ itself child) in
          let one : fold max 0 (map (depth_of nodes) (named_by node)) ≡ max 0 (depth_of nodes child) =
          ap (λ cs. fold max 0 (map (depth_of nodes) cs)) names in
          omega (arith, most, one, depth_of-positive nodes child within)
    ]

-- the new node is as deep as its children make it
pub depth_of-new : (nodes : List Node) (node : Node) → IsNew nodes node →
    depth_of (with_node nodes node) (number_of nodes node) ≡ depth_over (depth_of nodes) (named_by node)
depth_of-new nodes node fresh =
    let whole : List Node = with_node nodes node in
    let number : ℕ = number_of nodes node in
    let parts : List ℕ = range_with_len (length nodes) (part_count node) in
    let at : children_at whole number ≡ children_of number node = children_at-new nodes node in
    let same : map (depth_of whole) (named_by node) ≡ map (depth_of nodes) (named_by node) =
    map-same (depth_of whole) (depth_of nodes) (named_by node)
    (all_members (λ c. depth_of whole c ≡ depth_of nodes c) (named_by node)
    (λ k h. depth_of-old nodes node k (named_within nodes node fresh k h))) in
    depth_of-at whole number (omega (arith, length-with_node nodes node))
    (subst (λ cs. All (λ c. c < number) cs) (sym at) (new_below nodes node fresh))
    ∙ ap (depth_over (depth_of whole)) (at ∙ children_of-new nodes node)
    ∙ depth_over-append (depth_of whole) (named_by node) parts
    ∙ ap (λ ds. 1 + max (fold max 0 ds) (fold max 0 (map (depth_of whole) parts))) same
    ∙ ap (λ n. 1 + n) (parts_no_deeper nodes node fresh)

-- what a node is made of stays
made_kept : (nodes : List Node) (node : Node) (n : ℕ) (d : Node) → IsMade nodes n d →
    IsMade (with_node nodes node) n d
made_kept nodes node n (Part bulk part) h =
    let stands = h.bulk_stands in
    record {
      within = h.within;
      place = h.place;
      bulk_stands = (
        stands.0,
        stands.1,
        with_node-old nodes node bulk (slice_get_within nodes bulk (Bulk stands.0 stands.1) stands.2) ∙ stands.2,
      );
    }
made_kept nodes node n d h = h

made_new : (nodes : List Node) (n : ℕ) (node : Node) → MeetsConditions node → IsMade nodes n node
made_new nodes n (Part bulk part) h = absurd h
made_new nodes n node h = h

made_part : (nodes : List Node) (node : Node) (i : ℕ) → i < part_count node →
    IsPartOf (with_node nodes node) (length nodes + i) (number_of nodes node) i
made_part nodes node i l =
    elim (bulk_or_none node) [
      | inl none ↦ absurd (omega (arith, l, none))
      | inr bulk ↦
          let count : part_count node ≡ BULK_PARTS = ap part_count bulk.2 in
          record {
            within = omega (arith, l, count);
            place = omega (arith, count);
            bulk_stands = (bulk.0, bulk.1, with_node-new nodes node ∙ ap Some bulk.2);
          }
    ]

placed_old : (nodes : List Node) (node : Node) → IsNew nodes node → (n : ℕ) (d : Node) →
    n < length nodes → slice_get nodes n ≡ Some d → IsPlaced (with_node nodes node) n d
placed_old nodes node fresh n d l e =
    let was = fresh.forest.each n d e in
    record {
      made = made_kept nodes node n d was.made;
      count = was.count;
      below = was.below;
      distinct = was.distinct;
      only_parent =
          All-weaker (λ c. parent_of nodes c ≡ Some n) (λ c. parent_of (with_node nodes node) c ≡ Some n)
          (λ c h. same_parent nodes node c n h) (children_of n d) was.only_parent;
      parts = λ i h.
          with_node-old nodes node (n - part_count d + i)
          (slice_get_within nodes (n - part_count d + i) (Part n i) (was.parts i h))
          ∙ was.parts i h;
      shallow = let same = depth_of-old nodes node n l in omega (arith, same, was.shallow);
    }

placed_part : (nodes : List Node) (node : Node) (i : ℕ) → i < part_count node →
    IsPlaced (with_node nodes node) (length nodes + i) (Part (number_of nodes node) i)
placed_part nodes node i l =
    let n : ℕ = length nodes + i in
    record {
      made = made_part nodes node i l;
      count = refl;
      below = All-nil (λ c. c < n);
      distinct = refl;
      only_parent = All-nil (λ c. parent_of (with_node nodes node) c ≡ Some n);
      parts = λ j h. absurd (omega (arith, h));
      shallow = let leaf = depth_of-part nodes node i l in omega (arith, leaf);
    }

new_distinct : (nodes : List Node) (node : Node) → IsNew nodes node →
    are_different (children_of (number_of nodes node) node) ≡ true
new_distinct nodes node fresh =
    ap are_different (children_of-new nodes node)
    ∙ different-append (named_by node) (range_with_len (length nodes) (part_count node))
    (different_from_counts (named_by node) (named_once nodes (named_by node) (is_allowed nodes node fresh).unused))
    (different_range (length nodes) (part_count node))
    (λ k h. range_below (length nodes) (part_count node) k (named_within nodes node fresh k h))

placed_new : (nodes : List Node) (node : Node) → IsNew nodes node →
    IsPlaced (with_node nodes node) (number_of nodes node) node
placed_new nodes node fresh =
    let whole : List Node = with_node nodes node in
    let number : ℕ = number_of nodes node in
    let start : number - part_count node ≡ length nodes = omega arith in
    record {
      made = made_new whole number node fresh.conditions;
      count = (lawful nodes node fresh.allowed).0;
      below = new_below nodes node fresh;
      distinct = new_distinct nodes node fresh;
      only_parent = all_members (λ c. parent_of whole c ≡ Some number) (children_of number node) (new_parent nodes node fresh);
      parts = λ i h. ap (λ a. slice_get whole (a + i)) start ∙ with_node-part nodes node i h;
      shallow =
          let depth = depth_of-new nodes node fresh in
          omega (arith, depth, (is_allowed nodes node fresh).shallow);
    }

placed : (nodes : List Node) (node : Node) → IsNew nodes node → (n : ℕ) (d : Node) →
    Standing nodes node n d → IsPlaced (with_node nodes node) n d
placed nodes node fresh n d (stands_old _ _ l e) = placed_old nodes node fresh n d l e
placed nodes node fresh n d (stands_part _ i _ l at is) =
    let here : IsPlaced (with_node nodes node) (length nodes + i) d =
    subst (λ x. IsPlaced (with_node nodes node) (length nodes + i) x) (sym is) (placed_part nodes node i l) in
    subst (λ k. IsPlaced (with_node nodes node) k d) (sym at) here
placed nodes node fresh n d (stands_new _ _ at is) =
    let here : IsPlaced (with_node nodes node) (number_of nodes node) d =
    subst (λ x. IsPlaced (with_node nodes node) (number_of nodes node) x) (sym is) (placed_new nodes node fresh) in
    subst (λ k. IsPlaced (with_node nodes node) k d) (sym at) here

pub forest_more : (nodes : List Node) (node : Node) → IsNew nodes node → IsForest (with_node nodes node)
forest_more nodes node fresh = record {
  few = omega (arith, length-with_node nodes node, (is_allowed nodes node fresh).few);
  each = λ n d e. placed nodes node fresh n d (standing nodes node n d e);
}
