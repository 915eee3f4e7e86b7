-- Which nodes have no parent once a node more was made.
use Rattle.std.proofs.Common.{◌≡◌, ◌<◌, ◌≤◌, ℕ, ◌+◌, ◌-◌, Bool, true, false, not, cond, List, [], ◌∷◌, ◌++◌, length, Option, Some, None, refl, sym, ap, ◌∙◌, inl, inr, arith}
use Rattle.std.specs.Prelude.{◌||◌, ◌&&◌, All, count_by, find, is_none, nat_eq, nat_lt, slice_get}
use Rattle.std.specs.Option.{option_map_or, option_or}
use Rattle.std.specs.List.{list_any, range_with_len}
use Rattle.std.proofs.lemmas.Bool.{cases_lt, cases_eq, eq-eqb, eqb-true, false_from_ne_true, false≢true, le-ltb, lt-ltb, ne_eqb, or_from, or_parts, cond-true, cond-false}
use Rattle.std.proofs.lemmas.List.Elements.{All-head, All-tail}
use Rattle.std.proofs.lemmas.List.Sums.{sum_by-append, sum_by-cons}
use Rattle.common_lemmas.proofs.Bool.{either}
use Rattle.common_lemmas.proofs.Options.{known}
use Rattle.plan_rules.specs.Children.{named_by}
use Rattle.plan_rules.specs.declared.node.Node.{Node}
use Rattle.plan_shape.specs.Added.{number_of, with_node}
use Rattle.plan_shape.specs.Children.{children_of, part_count}
use Rattle.plan_shape.specs.Finish.{is_of_version_2, passes}
use Rattle.plan_shape.specs.Parents.{is_child, is_free, parent_of}
use Rattle.plan_shape.specs.Refusals.{is_used, used_child}
use Rattle.plan_shape.proofs.LeastLemmas.{least-None}
use Rattle.plan_shape.proofs.ListLemmas.{all_members, range_above}
use Rattle.plan_builder.proofs.AddedLemmas.{Standing, standing, stands_new, stands_old, stands_part, length-with_node}
use Rattle.plan_builder.proofs.ForestLemmas.{is_new_child, kept_parent, old_child, part_child}
use Rattle.std.proofs.Math.Bool.{or-false}
use Rattle.plan_builder.proofs.ParentLemmas.{parent_of-with_node}
use Rattle.plan_reader.specs.Roots.{AreTidy, ChildrenFirst}

-- a number of a list
abbrev pub IsOf : List ℕ → ℕ → Type 0
IsOf numbers n = list_any (nat_eq n) numbers ≡ true

-- a node over nodes of the list
abbrev pub NamesNodes : List Node → Node → Type 0
NamesNodes nodes node = (n : ℕ) → IsOf (named_by node) n → n < length nodes

pub is-one : (n k : ℕ) → IsOf (k ∷ []) n → n ≡ k
is-one n k is = eqb-true n k (sym (or-false (nat_eq n k)) ∙ is)

pub not_one : (n k : ℕ) → (n ≡ k → ⊥) → list_any (nat_eq n) (k ∷ []) ≡ false
not_one n k other = ap (λ b. b || false) (ne_eqb n k other)

pub count-none : (n : ℕ) (ks : List ℕ) → list_any (nat_eq n) ks ≡ false → count_by (nat_eq n) ks ≡ 0
count-none n [] none = refl
count-none n (k ∷ ks) none =
    let parts = or_parts (nat_eq n k) (list_any (nat_eq n) ks) none in
    let sum : count_by (nat_eq n) (k ∷ ks) ≡ cond {A = ℕ} (nat_eq n k) 1 0 + count_by (nat_eq n) ks =
    sum_by-cons (λ m. cond (nat_eq n m) 1 0) k ks in
    let other : cond {A = ℕ} (nat_eq n k) 1 0 ≡ 0 = cond-false (nat_eq n k) 1 0 parts.0 in
    omega (arith, sum, other, count-none n ks parts.1)

pub count-append : (n : ℕ) (ks js : List ℕ)
    → count_by (nat_eq n) (ks ++ js) ≡ count_by (nat_eq n) ks + count_by (nat_eq n) js
count-append n ks js = sum_by-append (λ m. cond (nat_eq n m) 1 0) ks js

pub count-one : (n k : ℕ) → count_by (nat_eq n) (k ∷ []) ≤ 1
count-one n k =
    let sum : count_by (nat_eq n) (k ∷ []) ≡ cond {A = ℕ} (nat_eq n k) 1 0 + count_by (nat_eq n) [] =
    sum_by-cons (λ m. cond (nat_eq n m) 1 0) k [] in
    let none : count_by (nat_eq n) [] ≡ 0 = refl in
    either (nat_eq n k)
    (λ t. let one : cond {A = ℕ} (nat_eq n k) 1 0 ≡ 1 = cond-true (nat_eq n k) 1 0 t in omega (arith, sum, none, one))
    (λ f. let zero : cond {A = ℕ} (nat_eq n k) 1 0 ≡ 0 = cond-false (nat_eq n k) 1 0 f in omega (arith, sum, none, zero))

-- children that are free and stand once can be taken
find-quiet : {X : Type 0} (p : X → Bool) (xs : List X) → All (λ x. p x ≡ false) xs → find p xs ≡ None
find-quiet p [] none = refl
find-quiet p (x ∷ xs) none =
    cond-false (p x) (Some x) (find p xs) (All-head (λ y. p y ≡ false) x xs none)
    ∙ find-quiet p xs (All-tail (λ y. p y ≡ false) x xs none)

pub unused : (nodes : List Node) (ks : List ℕ) → ((k : ℕ) → IsOf ks k → is_free nodes k ≡ true)
    → ((k : ℕ) → count_by (nat_eq k) ks ≤ 1) → used_child nodes ks ≡ None
unused nodes ks free once =
    find-quiet (is_used nodes ks) ks (all_members (λ k. is_used nodes ks k ≡ false) ks (λ k is.
    or_from (not (is_free nodes k)) (nat_lt 1 (count_by (nat_eq k) ks)) (ap not (free k is))
    (le-ltb 1 (count_by (nat_eq k) ks) (once k))))

-- a node that stood there before is free where it was, and isn't a child of the new one
none-or : (o : Option ℕ) (b : Bool) (n : ℕ)
    → is_none (option_or o (cond b (Some n) None)) ≡ (is_none o && not b)
none-or None true n = refl
none-or None false n = refl
none-or (Some m) b n = refl

pub free-old : (nodes : List Node) (node : Node) (k : ℕ) → k < length nodes
    → is_free (with_node nodes node) k ≡ (is_free nodes k && not (list_any (nat_eq k) (named_by node)))
free-old nodes node k before =
    let whole : List Node = with_node nodes node in
    let number : ℕ = number_of nodes node in
    let here : nat_lt k (length whole) ≡ true =
    lt-ltb k (length whole) (omega (arith, before, length-with_node nodes node)) in
    let there : nat_lt k (length nodes) ≡ true = lt-ltb k (length nodes) before in
    let named : Bool = list_any (nat_eq k) (named_by node) in
    let parent : parent_of whole k ≡ option_or (parent_of nodes k) (cond named (Some number) None) =
    parent_of-with_node nodes node k
    ∙ ap (λ b. option_or (parent_of nodes k) (cond b (Some number) None)) (old_child nodes node k before) in
    ap (λ b. b && is_none (parent_of whole k)) here
    ∙ ap is_none parent
    ∙ none-or (parent_of nodes k) named number
    ∙ ap (λ b. (b && is_none (parent_of nodes k)) && not named) (sym there)

-- of the others the new one alone is free
no_parent : (nodes : List Node) (k : ℕ)
    → ChildrenFirst nodes
    → length nodes ≤ k → parent_of nodes k ≡ None
no_parent nodes k ordered past =
    least-None (is_child nodes k) (length nodes) (λ m within.
    false_from_ne_true (is_child nodes k m) (λ t. absurd (omega (arith, ordered k m t, within, past))))

no_child : (nodes : List Node) (node : Node) (k : ℕ)
    → NamesNodes nodes node → number_of nodes node ≤ k
    → list_any (nat_eq k) (children_of (number_of nodes node) node) ≡ false
no_child nodes node k within past =
    is_new_child nodes node k
    ∙ or_from (list_any (nat_eq k) (named_by node)) (list_any (nat_eq k) (range_with_len (length nodes) (part_count node)))
    (false_from_ne_true (list_any (nat_eq k) (named_by node)) (λ t. absurd (omega (arith, within k t, past))))
    (range_above (length nodes) (part_count node) k past)

part-taken : (nodes : List Node) (node : Node) (k : ℕ)
    → ChildrenFirst nodes
    → length nodes ≤ k → k < number_of nodes node
    → is_none (parent_of (with_node nodes node) k) ≡ false
part-taken nodes node k ordered past before =
    let number : ℕ = number_of nodes node in
    let i : ℕ = k - length nodes in
    let at : length nodes + i ≡ k = omega (arith, past) in
    let child : list_any (nat_eq k) (children_of number node) ≡ true =
    ap (λ n. list_any (nat_eq n) (children_of number node)) (sym at)
    ∙ part_child nodes node i (omega (arith, past, before)) in
    ap is_none (parent_of-with_node nodes node k)
    ∙ ap (λ o. is_none (option_or o (cond (list_any (nat_eq k) (children_of number node)) (Some number) None)))
    (no_parent nodes k ordered past)
    ∙ ap is_none (cond-true (list_any (nat_eq k) (children_of number node)) (Some number) None child)

pub free-new : (nodes : List Node) (node : Node) (k : ℕ)
    → ChildrenFirst nodes → NamesNodes nodes node → length nodes ≤ k
    → is_free (with_node nodes node) k ≡ list_any (nat_eq k) (number_of nodes node ∷ [])
free-new nodes node k ordered within past =
    let whole : List Node = with_node nodes node in
    let number : ℕ = number_of nodes node in
    let long = length-with_node nodes node in
    let free : Bool = is_none (parent_of whole k) in
    elim (cases_lt k number) [
      | inl before ↦
          ap (λ b. b && free) (lt-ltb k (length whole) (omega (arith, before, long)))
          ∙ part-taken nodes node k ordered past before
          ∙ sym (not_one k number (λ e. absurd (omega (arith, before, e))))
      | inr from ↦
          elim (cases_eq k number) [
            | inl at ↦
                let parent : parent_of whole k ≡ None =
                kept_parent nodes node k (no_child nodes node k within from) ∙ no_parent nodes k ordered past in
                ap (λ b. b && free) (lt-ltb k (length whole) (omega (arith, at, long)))
                ∙ ap is_none parent
                ∙ sym (ap (λ b. b || false) (eq-eqb k number at))
            | inr other ↦
                ap (λ b. b && free) (le-ltb k (length whole) (omega (arith, from, other, long)))
                ∙ sym (not_one k number other)
          ]
    ]

-- children stand before their parents still
child-before : (nodes : List Node) (node : Node) (k m : ℕ) (d : Node)
    → ChildrenFirst nodes → NamesNodes nodes node
    → list_any (nat_eq k) (children_of m d) ≡ true → Standing nodes node m d → k < m
child-before nodes node k m d ordered within is (stands_old _ _ l e) =
    ordered k m (ap (λ o. list_any (nat_eq k) (option_map_or (children_of m) o [])) e ∙ is)
child-before nodes node k m d ordered within is (stands_part _ i _ l at part) =
    absurd (false≢true (ap (λ x. list_any (nat_eq k) (children_of m x)) (sym part) ∙ is))
child-before nodes node k m d ordered within is (stands_new _ _ at same) =
    let here : list_any (nat_eq k) (children_of (number_of nodes node) node) ≡ true =
    ap (λ x. list_any (nat_eq k) (children_of (number_of nodes node) x)) (sym same)
    ∙ ap (λ n. list_any (nat_eq k) (children_of n d)) (sym at) ∙ is in
    elim (cases_lt k (number_of nodes node)) [
      | inl before ↦ omega (arith, before, at)
      | inr past ↦ absurd (false≢true (sym (no_child nodes node k within past) ∙ here))
    ]

ordered-more : (nodes : List Node) (node : Node)
    → ChildrenFirst nodes → NamesNodes nodes node
    → ChildrenFirst (with_node nodes node)
ordered-more nodes node ordered within k m t =
    known (slice_get (with_node nodes node) m)
    (λ none. absurd (false≢true (ap (λ o. list_any (nat_eq k) (option_map_or (children_of m) o [])) (sym none) ∙ t)))
    (λ d some.
    child-before nodes node k m d ordered within
    (ap (λ o. list_any (nat_eq k) (option_map_or (children_of m) o [])) (sym some) ∙ t)
    (standing nodes node m d some))

-- and the version has each node
still-early : (nodes : List Node) (node : Node) (n : ℕ) (d : Node) → is_of_version_2 node ≡ false
    → passes is_of_version_2 nodes n ≡ false → Standing nodes node n d → is_of_version_2 d ≡ false
still-early nodes node n d new old (stands_old _ _ l e) =
    ap (λ o. option_map_or is_of_version_2 o false) (sym e) ∙ old
still-early nodes node n d new old (stands_part _ i _ l at part) = ap is_of_version_2 part
still-early nodes node n d new old (stands_new _ _ at same) = ap is_of_version_2 same ∙ new

early-more : (nodes : List Node) (node : Node) (n : ℕ) → is_of_version_2 node ≡ false
    → passes is_of_version_2 nodes n ≡ false → passes is_of_version_2 (with_node nodes node) n ≡ false
early-more nodes node n new old =
    known (slice_get (with_node nodes node) n)
    (λ none. ap (λ o. option_map_or is_of_version_2 o false) none)
    (λ d some.
    ap (λ o. option_map_or is_of_version_2 o false) some
    ∙ still-early nodes node n d new old (standing nodes node n d some))

pub tidy-more : (is_first : Bool) (nodes : List Node) (node : Node) → AreTidy is_first nodes
    → NamesNodes nodes node
    → (is_first ≡ true → is_of_version_2 node ≡ false) → AreTidy is_first (with_node nodes node)
tidy-more is_first nodes node tidy within new = record {
  ordered = ordered-more nodes node tidy.ordered within;
  early = λ first n. early-more nodes node n (new first) (tidy.early first n);
}
