-- The children of a node, by where its object says them.
use Rattle.std.specs.Prelude.{Contains, slice_get, codes}
use Rattle.std.proofs.Common.{◌≡◌, ℕ, ◌+◌, ◌-◌, ◌<◌, List, [], ◌∷◌, All, get_or, length, Some, refl, sym, ap, ◌∙◌, subst, arith}
use Rattle.std.proofs.lemmas.List.Elements.{All-head, All-tail, All-weaker, All-contains, All-contains_itself, Contains-append_right}
use Rattle.std.proofs.lemmas.Option.{slice_get_within}
use Rattle.serde_json.specs.Data.{Data, null, array, object, Members, put}
use Rattle.serde_json.specs.View.{items_of}
use Rattle.plan_rules.specs.declared.node.Node.{Node}
use Rattle.plan_rules.specs.declared.node.Node.TheVariants.{Input, LetValue, LetError, LetStopped, WhenAll, Part}
use Rattle.plan_rules.specs.Children.{named_by}
use Rattle.plan_laws.proofs.Tables.{by_first, first-same, node-at}
use Rattle.plan_kinds.specs.Built.{IsNoPart}
use Rattle.plan_shape.specs.Blueprint.{Blueprint, IsPlan}
use Rattle.plan_shape.specs.Conditions.{MeetsConditions}
use Rattle.plan_shape.specs.Forest.{IsMade}
use Rattle.plan_shape.proofs.ForestLaws.{node_at}
use Rattle.plan_shape.proofs.ListLemmas.{map-same}
use Rattle.plan_kinds.proofs.Placing.{no-member}
use Rattle.plan_kinds.proofs.Plans.{plans-built}
use Rattle.plan_writer.specs.declared.below.Below.{Below}
use Rattle.plan_writer.specs.declared.below.Below.TheVariants as below
use Rattle.plan_writer.specs.Nodes.{below_of, children_named, list_data, listed, node_data, node_object, own_members, with_children}
use Rattle.plan_writer.specs.Order.{IsWritten}

-- a node's children are those that it names
pub named-below : (node : Node) → named_by node ≡ children_named (below_of node) (listed node)
named-below Input = refl
named-below node = refl

-- those in an array are among them
pub listed-named : (node : Node) (k : ℕ) → Contains (listed node) k → Contains (named_by node) k
listed-named (LetValue x pick xs) k among = Contains-append_right (x ∷ []) xs k among
listed-named (LetError x pick xs) k among = Contains-append_right (x ∷ []) xs k among
listed-named (LetStopped x pick xs) k among = Contains-append_right (x ∷ []) xs k among
listed-named (WhenAll xs) k among = among
listed-named node k among = no-member k among

-- an object has the values of the children alone
pub children-same : (f g : ℕ → Data) (b : Below) (list : List ℕ) (ms : Members)
    → All (λ k. f k ≡ g k) (children_named b list)
    → with_children f b list ms ≡ with_children g b list ms
children-same f g below.Nothing list ms same = refl
children-same f g (below.Child child) list ms same =
    ap (λ d. put (codes "child") d ms) (All-head (λ k. f k ≡ g k) child [] same)
children-same f g (below.ChildAndBodies child) list ms same =
    ap (λ (ds : List Data). put (codes "bodies") (array (items_of ds)) (put (codes "child") (f child) ms))
    (map-same f g list (All-tail (λ k. f k ≡ g k) child list same))
    ∙ ap (λ d. put (codes "bodies") (list_data g list) (put (codes "child") d ms))
    (All-head (λ k. f k ≡ g k) child list same)
children-same f g below.Children list ms same =
    ap (λ (ds : List Data). put (codes "children") (array (items_of ds)) ms) (map-same f g list same)
children-same f g (below.Pair first second) list ms same =
    ap (λ d. put (codes "second") d (put (codes "first") (f first) ms))
    (All-head (λ k. f k ≡ g k) second [] (All-tail (λ k. f k ≡ g k) first (second ∷ []) same))
    ∙ ap (λ d. put (codes "second") (g second) (put (codes "first") d ms))
    (All-head (λ k. f k ≡ g k) first (second ∷ []) same)

-- what a node's object is
pub node_data-at : (nodes : List Node) (n : ℕ) (node : Node) → slice_get nodes n ≡ Some node
    → All (λ c. c < n) (named_by node) → node_data nodes n ≡ node_object node (node_data nodes)
node_data-at nodes n node at before =
    let first : ℕ → Data = by_first null node_object nodes n in
    let same : All (λ k. first k ≡ node_data nodes k) (named_by node) =
    All-weaker (λ c. c < n) (λ k. first k ≡ node_data nodes k)
    (λ k less. first-same null node_object nodes n k node at less) (named_by node) before in
    let P : List ℕ → Type 0 = λ cs. All (λ k. first k ≡ node_data nodes k) cs in
    node-at null node_object nodes n node at
    ∙ ap object (children-same first (node_data nodes) (below_of node) (listed node) (own_members node)
    (subst P (named-below node) same))

made-meets : (nodes : List Node) (n : ℕ) (node : Node) → IsMade nodes n node → IsNoPart (Some node)
    → MeetsConditions node
made-meets nodes n (Part bulk part) made whole = absurd whole
made-meets nodes n node made whole = made

-- a child stands before its parent, and is an object of its own
abbrev pub IsBelow : List Node → ℕ → ℕ → Type 0
IsBelow nodes n k = IsWritten nodes k × (k < n)

pub named-written : (plan : Blueprint) → IsPlan plan → (n : ℕ) (node : Node) → slice_get plan.nodes n ≡ Some node
    → All (IsBelow plan.nodes n) (named_by node)
named-written plan is_plan n node at =
    let built = plans-built plan is_plan in
    let within = slice_get_within plan.nodes n node at in
    All-weaker (Contains (named_by node)) (IsBelow plan.nodes n)
    (λ k among.
    let less : k < n = All-contains (λ c. c < n) (named_by node) k (built.ordered n node at) among in
    let whole = All-contains (λ c. IsNoPart (slice_get plan.nodes c)) (named_by node) k (built.no_parts n node at) among in
    node_at plan.nodes k (omega (arith, less, within)) (λ child stands.
    ((child, stands, made-meets plan.nodes k child (is_plan.forest.each k child stands).made (subst IsNoPart stands whole)), less)))
    (named_by node) (All-contains_itself (named_by node))

-- the same, by where the children stand in the object, and of those in the array
pub children-written : (plan : Blueprint) → IsPlan plan → (n : ℕ) (node : Node) (b : Below)
    → slice_get plan.nodes n ≡ Some node → b ≡ below_of node
    → All (IsBelow plan.nodes n) (children_named b (listed node))
children-written plan is_plan n node b at is =
    let P : List ℕ → Type 0 = All (IsBelow plan.nodes n) in
    subst P (named-below node ∙ ap (λ (c : Below). children_named c (listed node)) (sym is)) (named-written plan is_plan n node at)

pub listed-written : (plan : Blueprint) → IsPlan plan → (n : ℕ) (node : Node)
    → slice_get plan.nodes n ≡ Some node → All (IsBelow plan.nodes n) (listed node)
listed-written plan is_plan n node at =
    All-weaker (Contains (listed node)) (IsBelow plan.nodes n)
    (λ k among. All-contains (IsBelow plan.nodes n) (named_by node) k (named-written plan is_plan n node at) (listed-named node k among))
    (listed node) (All-contains_itself (listed node))

-- so stands each child at its key
pub child-written : (plan : Blueprint) → IsPlan plan → (n child : ℕ) (node : Node) → slice_get plan.nodes n ≡ Some node
    → below.Child child ≡ below_of node → IsBelow plan.nodes n child
child-written plan is_plan n child node at is =
    All-head (IsBelow plan.nodes n) child [] (children-written plan is_plan n node (below.Child child) at is)

pub bound-written : (plan : Blueprint) → IsPlan plan → (n child : ℕ) (node : Node) → slice_get plan.nodes n ≡ Some node
    → below.ChildAndBodies child ≡ below_of node → IsBelow plan.nodes n child
bound-written plan is_plan n child node at is =
    All-head (IsBelow plan.nodes n) child (listed node)
    (children-written plan is_plan n node (below.ChildAndBodies child) at is)

pub pair-written : (plan : Blueprint) → IsPlan plan → (n first second : ℕ) (node : Node)
    → slice_get plan.nodes n ≡ Some node → below.Pair first second ≡ below_of node
    → IsBelow plan.nodes n first × IsBelow plan.nodes n second
pair-written plan is_plan n first second node at is =
    let all = children-written plan is_plan n node (below.Pair first second) at is in (
      All-head (IsBelow plan.nodes n) first (second ∷ []) all,
      All-head (IsBelow plan.nodes n) second [] (All-tail (IsBelow plan.nodes n) first (second ∷ []) all),
    )

pub listed-written_at : (plan : Blueprint) → IsPlan plan → (n index : ℕ) (node : Node) (list : List ℕ)
    → slice_get plan.nodes n ≡ Some node → list ≡ listed node → index < length list
    → IsBelow plan.nodes n (get_or list index 0)
listed-written_at plan is_plan n index node list at is within =
    let P : List ℕ → Type 0 = λ ks. All (IsBelow plan.nodes n) ks in
    subst P (sym is) (listed-written plan is_plan n node at) index 0 within

-- the root is an object of its own: a part of a bulk stands before it
root-meets : (nodes : List Node) (n : ℕ) (node : Node) → n + 1 ≡ length nodes → IsMade nodes n node
    → MeetsConditions node
root-meets nodes n (Part bulk part) last made =
    let within = slice_get_within nodes bulk _ made.bulk_stands.2 in
    absurd (omega (arith, made.within, made.place, within, last))
root-meets nodes n node last made = made

pub root-written : (plan : Blueprint) → IsPlan plan → IsWritten plan.nodes (length plan.nodes - 1)
root-written plan is_plan =
    let root : ℕ = length plan.nodes - 1 in
    let some = is_plan.some in
    node_at plan.nodes root (omega (arith, some)) (λ node stands.
    (node, stands, root-meets plan.nodes root node (omega (arith, some)) (is_plan.forest.each root node stands).made))
