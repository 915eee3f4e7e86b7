-- A builder's nodes are a forest, and stay one with a node that isn't refused.
use Rattle.std.proofs.Common.{◌≡◌, ℕ, ◌+◌, ◌-◌, ◌<◌, true, false, cond, List, ◌++◌, length, Option, Some, None, refl, sym, ap, ◌∙◌, inl, inr, arith}
use Rattle.std.proofs.Math.Bool.{or-false}
use Rattle.std.specs.Prelude.{◌||◌, All, nat_eq}
use Rattle.std.specs.Option.{option_or}
use Rattle.std.specs.List.{list_any, range_with_len}
use Rattle.std.proofs.lemmas.Bool.{cases_lt, or_right, cond-true, cond-false}
use Rattle.std.proofs.lemmas.List.Folds.{list_any-append}
use Rattle.plan_rules.specs.declared.node.Node.{Node}
use Rattle.plan_rules.specs.Children.{named_by}
use Rattle.plan_shape.specs.Children.{part_count, children_of}
use Rattle.plan_shape.specs.Parents.{parent_of}
use Rattle.plan_shape.specs.Conditions.{MeetsConditions}
use Rattle.plan_shape.specs.Added.{number_of, with_node}
use Rattle.plan_shape.specs.Refusals.{used_child, fault_of}
use Rattle.plan_shape.specs.Forest.{IsForest}
use Rattle.plan_shape.proofs.ListLemmas.{all_members, range_member, range_below, range_above}
use Rattle.plan_shape.proofs.ForestLaws.{no_parent}
use Rattle.plan_builder.proofs.RefusalLemmas.{allowed, lawful, free_within, free_parent, free_child}
use Rattle.plan_builder.proofs.ParentLemmas.{parent_of-with_node}

or_nothing : {X : Type 0} (o : Option X) → option_or o None ≡ o
or_nothing None = refl
or_nothing (Some x) = refl

-- what is added: a node that isn't refused and is as its call asks
pub record IsNew (nodes : List Node) (node : Node) : Type 0 where
  pub forest : IsForest nodes
  pub allowed : fault_of nodes node ≡ None
  pub conditions : MeetsConditions node

unused : (nodes : List Node) (node : Node) → IsNew nodes node → used_child nodes (named_by node) ≡ None
unused nodes node new = (allowed nodes (named_by node) (part_count node) (lawful nodes node new.allowed).1).unused

-- the children of the new node: those that it names, and the parts before it
parts_start : (nodes : List Node) (node : Node) → number_of nodes node - part_count node ≡ length nodes
parts_start nodes node = omega arith

pub children_of-new : (nodes : List Node) (node : Node) →
    children_of (number_of nodes node) node ≡ named_by node ++ range_with_len (length nodes) (part_count node)
children_of-new nodes node =
    ap (λ a. named_by node ++ range_with_len a (part_count node)) (parts_start nodes node)

pub is_new_child : (nodes : List Node) (node : Node) (k : ℕ) →
    list_any (nat_eq k) (children_of (number_of nodes node) node)
    ≡ (list_any (nat_eq k) (named_by node) || list_any (nat_eq k) (range_with_len (length nodes) (part_count node)))
is_new_child nodes node k =
    ap (list_any (nat_eq k)) (children_of-new nodes node)
    ∙ list_any-append (nat_eq k) (named_by node) (range_with_len (length nodes) (part_count node))

-- an old node is a child of the new one where it is named
pub old_child : (nodes : List Node) (node : Node) (k : ℕ) → k < length nodes →
    list_any (nat_eq k) (children_of (number_of nodes node) node) ≡ list_any (nat_eq k) (named_by node)
old_child nodes node k l =
    is_new_child nodes node k
    ∙ ap (λ b. list_any (nat_eq k) (named_by node) || b) (range_below (length nodes) (part_count node) k l)
    ∙ or-false (list_any (nat_eq k) (named_by node))

-- each part is one
pub part_child : (nodes : List Node) (node : Node) (i : ℕ) → i < part_count node →
    list_any (nat_eq (length nodes + i)) (children_of (number_of nodes node) node) ≡ true
part_child nodes node i l =
    is_new_child nodes node (length nodes + i)
    ∙ or_right (list_any (nat_eq (length nodes + i)) (named_by node))
    (list_any (nat_eq (length nodes + i)) (range_with_len (length nodes) (part_count node)))
    (range_member (length nodes) (part_count node) (length nodes + i) (omega arith) (omega arith))

-- the named children are old nodes
pub named_within : (nodes : List Node) (node : Node) → IsNew nodes node → (k : ℕ) →
    list_any (nat_eq k) (named_by node) ≡ true → k < length nodes
named_within nodes node new k h =
    free_within nodes k (free_child nodes (named_by node) (unused nodes node new) k h)

-- all its children stand before it
pub new_below : (nodes : List Node) (node : Node) → IsNew nodes node →
    All (λ c. c < number_of nodes node) (children_of (number_of nodes node) node)
new_below nodes node new =
    all_members (λ c. c < number_of nodes node) (children_of (number_of nodes node) node) (λ k h.
    elim (cases_lt k (number_of nodes node)) [
      | inl before ↦ before
      | inr after ↦
          let parts : list_any (nat_eq k) (range_with_len (length nodes) (part_count node)) ≡ false =
          range_above (length nodes) (part_count node) k after in
          let named : list_any (nat_eq k) (named_by node) ≡ true =
          sym (or-false (list_any (nat_eq k) (named_by node)))
          ∙ ap (λ b. list_any (nat_eq k) (named_by node) || b) (sym parts)
          ∙ sym (is_new_child nodes node k) ∙ h in
          absurd (omega (arith, after, named_within nodes node new k named))
    ])

-- the parent of each of its children is the new node
pub new_parent : (nodes : List Node) (node : Node) → IsNew nodes node → (k : ℕ) →
    list_any (nat_eq k) (children_of (number_of nodes node) node) ≡ true →
    parent_of (with_node nodes node) k ≡ Some (number_of nodes node)
new_parent nodes node new k h =
    let number : ℕ = number_of nodes node in
    let before : parent_of nodes k ≡ None =
    elim (cases_lt k (length nodes)) [
      | inl old ↦
          free_parent nodes k (free_child nodes (named_by node) (unused nodes node new) k (sym (old_child nodes node k old) ∙ h))
      | inr later ↦ no_parent nodes k new.forest later
    ] in
    parent_of-with_node nodes node k
    ∙ ap (λ o. option_or o (cond (list_any (nat_eq k) (children_of number node)) (Some number) None)) before
    ∙ cond-true (list_any (nat_eq k) (children_of number node)) (Some number) None h

-- a node that isn't a child of the new one keeps its parent
pub kept_parent : (nodes : List Node) (node : Node) (k : ℕ) →
    list_any (nat_eq k) (children_of (number_of nodes node) node) ≡ false →
    parent_of (with_node nodes node) k ≡ parent_of nodes k
kept_parent nodes node k h =
    let number : ℕ = number_of nodes node in
    parent_of-with_node nodes node k
    ∙ ap (option_or (parent_of nodes k)) (cond-false (list_any (nat_eq k) (children_of number node)) (Some number) None h)
    ∙ or_nothing (parent_of nodes k)

-- a node that has a parent keeps it
pub same_parent : (nodes : List Node) (node : Node) (k n : ℕ) → parent_of nodes k ≡ Some n →
    parent_of (with_node nodes node) k ≡ Some n
same_parent nodes node k n h =
    let number : ℕ = number_of nodes node in
    parent_of-with_node nodes node k
    ∙ ap (λ o. option_or o (cond (list_any (nat_eq k) (children_of number node)) (Some number) None)) h
