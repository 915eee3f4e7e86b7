-- What is defined of each node of a list by what is defined of the nodes before it.
use Rattle.std.specs.Prelude.{ℕ, zero, suc, Bool, true, false, List, length, slice_get, Option, Some, None, ◌==◌}
use Rattle.plan_rules.specs.declared.node.Node.{Node}

-- one of two meanings, by a test
abbrev pub choose {ℓ} : {A : Type ℓ} → Bool → A → A → A
choose true a b = a
choose false a b = b

-- the meaning of the n-th of m nodes, each by the meanings of those before it; `dull` beyond them
abbrev pub table {ℓ} : {A : Type ℓ} → A → (ℕ → (ℕ → A) → A) → ℕ → ℕ → A
table dull step zero n = dull
table dull step (suc m) n = choose (n == m) (step m (table dull step m)) (table dull step m n)

-- the case of the node, where there is one
abbrev pub case_of {ℓ} : {A : Type ℓ} → A → (Node → (ℕ → A) → A) → Option Node → (ℕ → A) → A
case_of dull case None below = dull
case_of dull case (Some node) below = case node below

-- the meaning of a node of this list, by a case for each kind of node
abbrev pub by_node {ℓ} : {A : Type ℓ} → A → (Node → (ℕ → A) → A) → List Node → ℕ → A
by_node dull case nodes n = table dull (λ m below. case_of dull case (slice_get nodes m) below)
    (length nodes) n
