-- Where the nodes of a forest stand.
use Rattle.std.specs.Prelude.{Contains, slice_get}
use Rattle.std.specs.List.{list_any, range_with_len}
use Rattle.std.proofs.Common.{◌≡◌, ◌⊎◌, ℕ, ◌-◌, ◌<◌, true, false, not, ◌==◌, List, [], ◌∷◌, ◌++◌, length, Some, inl, inr, sym, ap, ◌∙◌, subst, arith}
use Rattle.std.proofs.lemmas.Bool.{and_parts, not-true, eq-eqb, eqb-true, false≢true}
use Rattle.std.proofs.lemmas.Option.{same_Some, slice_get_within}
use Rattle.std.proofs.lemmas.List.Elements.{All-contains, Contains-append_left, Contains-append_right, Contains-append_cases, Contains-push_cases}
use Rattle.std.proofs.lemmas.List.Folds.{list_any_at}
use Rattle.std.proofs.lemmas.Map.Views.{Contains-from_any}
use Rattle.common_lemmas.specs.Lists.{are_different}
use Rattle.plan_rules.specs.declared.node.Node.{Node}
use Rattle.plan_rules.specs.declared.node.Node.TheVariants.{LetValue, LetError, LetStopped, Bulk, Part}
use Rattle.plan_rules.specs.Children.{named_by}
use Rattle.plan_kinds.specs.Runs.{run_by, bodies_of}
use Rattle.plan_shape.specs.declared.limits.TheConstants.{BULK_PARTS}
use Rattle.plan_shape.specs.Children.{children_of}
use Rattle.plan_shape.specs.Parents.{parent_of}
use Rattle.plan_shape.specs.Forest.{IsForest, IsPartOf}
use Rattle.plan_shape.proofs.ListLemmas.{range_member}

-- a node's children and its bodies are the nodes that it names
pub run-named : (node : Node) (k : ℕ) → Contains (run_by node) k → Contains (named_by node) k
run-named (LetValue x pick xs) k among = Contains-append_left (x ∷ []) xs k among
run-named (LetError x pick xs) k among = Contains-append_left (x ∷ []) xs k among
run-named (LetStopped x pick xs) k among = Contains-append_left (x ∷ []) xs k among
run-named node k among = among

-- an empty list has no members
pub no-member : (k : ℕ) {G : Type 0} → Contains [] k → G
no-member k among = absurd (omega (arith, among.1))

pub body-named : (node : Node) (k : ℕ) → Contains (bodies_of node) k → Contains (named_by node) k
body-named (LetValue x pick xs) k among = Contains-append_right (x ∷ []) xs k among
body-named (LetError x pick xs) k among = Contains-append_right (x ∷ []) xs k among
body-named (LetStopped x pick xs) k among = Contains-append_right (x ∷ []) xs k among
body-named node k among = no-member k among

pub named-cases : (node : Node) (k : ℕ) → Contains (named_by node) k →
    Contains (run_by node) k ⊎ Contains (bodies_of node) k
named-cases (LetValue x pick xs) k among = Contains-append_cases (x ∷ []) xs k among
named-cases (LetError x pick xs) k among = Contains-append_cases (x ∷ []) xs k among
named-cases (LetStopped x pick xs) k among = Contains-append_cases (x ∷ []) xs k among
named-cases node k among = inl among

-- what stands first in a list of different numbers doesn't stand behind it
apart : (x : ℕ) (xs : List ℕ) (k : ℕ) → are_different (x ∷ xs) ≡ true → Contains (x ∷ []) k →
    Contains xs k → ⊥
apart x xs k different first rest =
    let none : list_any (λ m. m == x) xs ≡ false =
    not-true (list_any (λ m. m == x) xs) (and_parts (not (list_any (λ m. m == x) xs)) (are_different xs) different).0 in
    let same : x ≡ k = elim (Contains-push_cases [] x k first) [ inl none_there ↦ no-member k none_there | inr e ↦ e ] in
    let here : list_any (λ m. m == x) xs ≡ true =
    list_any_at (λ m. m == x) xs rest.0 k rest.1 (eq-eqb _ x (rest.2 ∙ sym same)) in
    false≢true (sym none ∙ here)

module _ (nodes : List Node) (forest : IsForest nodes) where
  -- a node names nodes that stand before it, and is their parent
  pub before : (n k : ℕ) (node : Node) → slice_get nodes n ≡ Some node → Contains (named_by node) k → k < n
  before n k node at among =
      All-contains (λ c. c < n) (children_of n node) k (forest.each n node at).below
      (Contains-append_left (named_by node) _ k among)

  pub child-parent : (n k : ℕ) (node : Node) → slice_get nodes n ≡ Some node → Contains (children_of n node) k →
      parent_of nodes k ≡ Some n
  child-parent n k node at among =
      All-contains (λ c. parent_of nodes c ≡ Some n) (children_of n node) k (forest.each n node at).only_parent among

  parent : (n k : ℕ) (node : Node) → slice_get nodes n ≡ Some node → Contains (named_by node) k →
      parent_of nodes k ≡ Some n
  parent n k node at among = child-parent n k node at (Contains-append_left (named_by node) _ k among)

  pub one-parent : (n m k : ℕ) (node other : Node) → slice_get nodes n ≡ Some node →
      slice_get nodes m ≡ Some other → Contains (named_by node) k → Contains (named_by other) k → n ≡ m
  one-parent n m k node other at there among within =
      same_Some n m (sym (parent n k node at among) ∙ parent m k other there within)

  -- no part is named
  pub no-part : (n k bulk part : ℕ) (node : Node) → slice_get nodes n ≡ Some node →
      Contains (named_by node) k → slice_get nodes k ≡ Some (Part bulk part) → ⊥
  no-part n k bulk part node at among is =
      let made : IsPartOf nodes k bulk part = (forest.each k (Part bulk part) is).made in
      let stands = made.bulk_stands in
      let owner : Node = Bulk (stands.0) (stands.1) in
      let parts : List ℕ = range_with_len (bulk - BULK_PARTS) BULK_PARTS in
      let member : Contains parts k =
      Contains-from_any eqb-true k parts
      (range_member (bulk - BULK_PARTS) BULK_PARTS k (omega (arith, made.place, made.within))
      (omega (arith, made.place, made.within))) in
      let its = child-parent bulk k owner stands.2 (Contains-append_right (stands.0 ∷ []) parts k member) in
      let same : n ≡ bulk = same_Some n bulk (sym (parent n k node at among) ∙ its) in
      let one : node ≡ owner = same_Some node owner (sym at ∙ ap (slice_get nodes) same ∙ stands.2) in
      apart (stands.0) parts k (forest.each bulk owner stands.2).distinct
      (subst (λ d. Contains (named_by d) k) one among) member

  -- a part stands before its bulk
  pub part-before : (n bulk part : ℕ) → slice_get nodes n ≡ Some (Part bulk part) →
      (n < bulk) × (bulk < length nodes)
  part-before n bulk part is =
      let made : IsPartOf nodes n bulk part = (forest.each n (Part bulk part) is).made in
      let stands = made.bulk_stands in
      (omega (arith, made.place, made.within), slice_get_within nodes bulk _ stands.2)

  -- no child of a node is one of its bodies too
  pub child-no_body : (n k : ℕ) (node : Node) → slice_get nodes n ≡ Some node → Contains (run_by node) k →
      Contains (bodies_of node) k → ⊥
  child-no_body n k (LetValue x pick xs) at first rest =
      apart x (xs ++ _) k (forest.each n (LetValue x pick xs) at).distinct first (Contains-append_left xs _ k rest)
  child-no_body n k (LetError x pick xs) at first rest =
      apart x (xs ++ _) k (forest.each n (LetError x pick xs) at).distinct first (Contains-append_left xs _ k rest)
  child-no_body n k (LetStopped x pick xs) at first rest =
      apart x (xs ++ _) k (forest.each n (LetStopped x pick xs) at).distinct first (Contains-append_left xs _ k rest)
  child-no_body n k node at first rest = no-member k rest
