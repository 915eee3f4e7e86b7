-- The nodes of a builder with one more: which stands where.
use Rattle.std.proofs.Common.{◌≡◌, ◌⊎◌, ℕ, ◌+◌, ◌-◌, ◌<◌, List, [], ◌∷◌, ◌++◌, length, get_or, Some, refl, sym, ap, ◌∙◌, inl, inr, arith}
use Rattle.std.specs.Prelude.{slice_get}
use Rattle.std.specs.Option.{option_map, option_map_or}
use Rattle.std.specs.List.{range_with_len}
use Rattle.std.proofs.Common.{length-append}
use Rattle.std.proofs.lemmas.Bool.{cases_lt, cases_eq}
use Rattle.std.proofs.lemmas.Option.{slice_get-map, slice_get-get_or, slice_get_within, same_Some}
use Rattle.std.proofs.lemmas.List.FromFn.{length-range_with_len, get_or-range_with_len, length-map-range_with_len}
use Rattle.exec_job.specs.declared.job.Job.{Job}
use Rattle.plan_rules.specs.declared.node.Node.{Node}
use Rattle.plan_rules.specs.declared.node.Node.TheVariants.{Bulk, Part}
use Rattle.plan_shape.specs.Children.{part_count, children_of, children_at}
use Rattle.plan_shape.specs.Added.{number_of, parts_of, with_node}
use Rattle.common_lemmas.proofs.Lists.{slice_get-append_left, slice_get-append_right}

-- a node has no parts, or is a bulk
pub bulk_or_none : (node : Node) →
    (part_count node ≡ 0) ⊎ ((child : ℕ) × (job : Job) × (node ≡ Bulk child job))
bulk_or_none (Bulk child job) = inr (child, job, refl)
bulk_or_none node = inl refl

pub length-parts_of : (bulk count : ℕ) → length (parts_of bulk count) ≡ count
length-parts_of bulk count = length-map-range_with_len (λ part. Part bulk part) 0 count

pub parts_of-at : (bulk count i : ℕ) → i < count → slice_get (parts_of bulk count) i ≡ Some (Part bulk i)
parts_of-at bulk count i l =
    let numbers : List ℕ = range_with_len 0 count in
    let within : i < length numbers = omega (arith, l, length-range_with_len 0 count) in
    let number : get_or numbers i 0 ≡ i = get_or-range_with_len 0 count i 0 l ∙ omega arith in
    slice_get-map (λ part. Part bulk part) numbers i
    ∙ ap (option_map (λ part. Part bulk part)) (slice_get-get_or numbers i 0 within ∙ ap Some number)

pub length-with_node : (nodes : List Node) (node : Node) →
    length (with_node nodes node) ≡ number_of nodes node + 1
length-with_node nodes node =
    let bulk : ℕ = number_of nodes node in
    omega (
      arith,
      length-append nodes (parts_of bulk (part_count node) ++ node ∷ []),
      length-append (parts_of bulk (part_count node)) (node ∷ []),
      length-parts_of bulk (part_count node),
    )

pub with_node-old : (nodes : List Node) (node : Node) (k : ℕ) → k < length nodes →
    slice_get (with_node nodes node) k ≡ slice_get nodes k
with_node-old nodes node k l =
    slice_get-append_left nodes (parts_of (number_of nodes node) (part_count node) ++ node ∷ []) k l

pub with_node-part : (nodes : List Node) (node : Node) (i : ℕ) → i < part_count node →
    slice_get (with_node nodes node) (length nodes + i) ≡ Some (Part (number_of nodes node) i)
with_node-part nodes node i l =
    let parts : List Node = parts_of (number_of nodes node) (part_count node) in
    slice_get-append_right nodes (parts ++ node ∷ []) i
    ∙ slice_get-append_left parts (node ∷ []) i (omega (arith, l, length-parts_of (number_of nodes node) (part_count node)))
    ∙ parts_of-at (number_of nodes node) (part_count node) i l

pub with_node-new : (nodes : List Node) (node : Node) →
    slice_get (with_node nodes node) (number_of nodes node) ≡ Some node
with_node-new nodes node =
    let bulk : ℕ = number_of nodes node in
    let parts : List Node = parts_of bulk (part_count node) in
    let last : part_count node ≡ length parts + 0 =
    omega (arith, length-parts_of bulk (part_count node)) in
    slice_get-append_right nodes (parts ++ node ∷ []) (part_count node)
    ∙ ap (slice_get (parts ++ node ∷ [])) last
    ∙ slice_get-append_right parts (node ∷ []) 0

-- a number of the nodes with one more is that of an old node, of a part, or the new one
pub data Standing (nodes : List Node) (node : Node) : ℕ → Node → Type 0 where
  stands_old : (n : ℕ) (d : Node) → n < length nodes → slice_get nodes n ≡ Some d → Standing nodes node n d
  stands_part : (n i : ℕ) (d : Node) → i < part_count node → n ≡ length nodes + i →
      d ≡ Part (number_of nodes node) i → Standing nodes node n d
  stands_new : (n : ℕ) (d : Node) → n ≡ number_of nodes node → d ≡ node → Standing nodes node n d

pub standing : (nodes : List Node) (node : Node) (n : ℕ) (d : Node) →
    slice_get (with_node nodes node) n ≡ Some d → Standing nodes node n d
standing nodes node n d e =
    let whole = length-with_node nodes node in
    let within = slice_get_within (with_node nodes node) n d e in
    elim (cases_lt n (length nodes)) [
      | inl before ↦ stands_old n d before (sym (with_node-old nodes node n before) ∙ e)
      | inr after ↦
          elim (cases_eq n (number_of nodes node)) [
            | inl at ↦
                stands_new n d at (same_Some d node (sym e ∙ ap (slice_get (with_node nodes node)) at ∙ with_node-new nodes node))
            | inr other ↦
                let i : ℕ = n - length nodes in
                let is : n ≡ length nodes + i = omega (arith, after) in
                let small : i < part_count node = omega (arith, after, other, whole, within) in
                stands_part n i d small is
                (same_Some d (Part (number_of nodes node) i) (sym e ∙ ap (slice_get (with_node nodes node)) is ∙ with_node-part nodes node i small))
          ]
    ]

-- the children of the nodes with one more
pub children_at-old : (nodes : List Node) (node : Node) (k : ℕ) → k < length nodes →
    children_at (with_node nodes node) k ≡ children_at nodes k
children_at-old nodes node k l = ap (λ o. option_map_or (children_of k) o []) (with_node-old nodes node k l)

pub children_at-part : (nodes : List Node) (node : Node) (i : ℕ) → i < part_count node →
    children_at (with_node nodes node) (length nodes + i) ≡ []
children_at-part nodes node i l =
    ap (λ o. option_map_or (children_of (length nodes + i)) o []) (with_node-part nodes node i l)

pub children_at-new : (nodes : List Node) (node : Node) →
    children_at (with_node nodes node) (number_of nodes node) ≡ children_of (number_of nodes node) node
children_at-new nodes node =
    ap (λ o. option_map_or (children_of (number_of nodes node)) o []) (with_node-new nodes node)
