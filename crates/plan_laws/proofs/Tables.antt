-- What is defined by a case for each kind of node, node by node.
use Rattle.std.specs.Prelude.{◌==◌, Option, Some, None}
use Rattle.std.specs.List.{slice_get}
use Rattle.std.proofs.Common.{◌≡◌, ℕ, zero, suc, ◌<◌, ◌≤◌, Bool, true, false, List, length, refl, sym, ap, ◌∙◌, arith}
use Rattle.std.proofs.lemmas.Bool.{eqb-true, eqb-false}
use Rattle.std.proofs.lemmas.Option.{slice_get_within}
use Rattle.plan_rules.specs.declared.node.Node.{Node}
use Rattle.plan_rules.specs.Tables.{choose, table, case_of, by_node}

-- what holds of each of two meanings where it may be chosen holds of the chosen one
chosen {ℓ κ} : {A : Type ℓ} (P : A → Type κ) (test : Bool) (x y : A) → (test ≡ true → P x) →
    (test ≡ false → P y) → P (choose test x y)
chosen P true x y first second = first refl
chosen P false x y first second = second refl

-- beyond the table the meaning is the dull one
pub table-past {ℓ} : {A : Type ℓ} (dull : A) (step : ℕ → (ℕ → A) → A) (m n : ℕ) → m ≤ n →
    table dull step m n ≡ dull
table-past dull step zero n past = refl
table-past dull step (suc m) n past =
    chosen (λ v. v ≡ dull) (n == m) _ _
    (λ e. let same : n ≡ m = eqb-true n m e in absurd (omega arith))
    (λ e. table-past dull step m n (omega arith))

-- within the table the meaning is that by the meanings before it
pub table-at {ℓ} : {A : Type ℓ} (dull : A) (step : ℕ → (ℕ → A) → A) (m n : ℕ) → n < m →
    table dull step m n ≡ step n (table dull step n)
table-at dull step zero n within = absurd (omega arith)
table-at dull step (suc m) n within =
    chosen (λ v. v ≡ step n (table dull step n)) (n == m) _ _
    (λ e. ap (λ k. step k (table dull step k)) (sym (eqb-true n m e)))
    (λ e. let other = eqb-false n m e in table-at dull step m n (omega (arith, other)))

-- two tables at once: what the steps keep holds of all their meanings
pub tables-hold {ℓ κ μ} : {A : Type ℓ} {B : Type κ} (P : A → B → Type μ)
    (dull : A) (step : ℕ → (ℕ → A) → A) (other_dull : B) (other_step : ℕ → (ℕ → B) → B) →
    P dull other_dull →
    ((m : ℕ) → ((k : ℕ) → P (table dull step m k) (table other_dull other_step m k)) →
    P (step m (table dull step m)) (other_step m (table other_dull other_step m))) →
    (m n : ℕ) → P (table dull step m n) (table other_dull other_step m n)
tables-hold P dull step other_dull other_step base keeps zero n = base
tables-hold P dull step other_dull other_step base keeps (suc m) n =
    both (n == m)
    (keeps m (λ k. tables-hold P dull step other_dull other_step base keeps m k))
    (tables-hold P dull step other_dull other_step base keeps m n)
  where
    both : (test : Bool) → P (step m (table dull step m)) (other_step m (table other_dull other_step m)) →
        P (table dull step m n) (table other_dull other_step m n) →
        P (choose test (step m (table dull step m)) (table dull step m n))
        (choose test (other_step m (table other_dull other_step m)) (table other_dull other_step m n))
    both true here before = here
    both false here before = before

-- the meaning of the n-th node by the first m nodes
abbrev pub by_first {ℓ} : {A : Type ℓ} → A → (Node → (ℕ → A) → A) → List Node → ℕ → ℕ → A
by_first dull case nodes m n =
    table dull (λ k below. case_of dull case (slice_get nodes k) below) m n

-- the meaning of a node is its case by the nodes before it
pub node-at {ℓ} : {A : Type ℓ} (dull : A) (case : Node → (ℕ → A) → A) (nodes : List Node) (n : ℕ)
    (node : Node) → slice_get nodes n ≡ Some node →
    by_node dull case nodes n ≡ case node (by_first dull case nodes n)
node-at dull case nodes n node at =
    table-at dull (λ k below. case_of dull case (slice_get nodes k) below) (length nodes) n
    (slice_get_within nodes n node at)
    ∙ ap (λ found. case_of dull case found (by_first dull case nodes n)) at

-- which is that by all nodes
pub first-same {ℓ} : {A : Type ℓ} (dull : A) (case : Node → (ℕ → A) → A) (nodes : List Node) (n k : ℕ)
    (node : Node) → slice_get nodes n ≡ Some node → k < n →
    by_first dull case nodes n k ≡ by_node dull case nodes k
first-same dull case nodes n k node at before =
    let within = slice_get_within nodes n node at in
    let step = λ (m : ℕ) (below : ℕ → _). case_of dull case (slice_get nodes m) below in
    table-at dull step n k before
    ∙ sym (table-at dull step (length nodes) k (omega (arith, within)))

-- a number that is no node has the dull meaning
pub node-past {ℓ} : {A : Type ℓ} (dull : A) (case : Node → (ℕ → A) → A) (nodes : List Node) (n : ℕ) →
    length nodes ≤ n → by_node dull case nodes n ≡ dull
node-past dull case nodes n past =
    table-past dull (λ k below. case_of dull case (slice_get nodes k) below) (length nodes) n past

-- what the cases of a node keep, in two readings at once, holds of all numbers
pub nodes-hold {ℓ κ μ} : {A : Type ℓ} {B : Type κ} (P : A → B → Type μ)
    (dull : A) (case : Node → (ℕ → A) → A) (other_dull : B) (other_case : Node → (ℕ → B) → B)
    (nodes : List Node) → P dull other_dull →
    ((m : ℕ) (node : Node) →
    ((k : ℕ) → P (by_first dull case nodes m k) (by_first other_dull other_case nodes m k)) →
    P (case node (by_first dull case nodes m)) (other_case node (by_first other_dull other_case nodes m))) →
    (m n : ℕ) → P (by_first dull case nodes m n) (by_first other_dull other_case nodes m n)
nodes-hold P dull case other_dull other_case nodes base keeps m n =
    tables-hold P dull (λ k below. case_of dull case (slice_get nodes k) below)
    other_dull (λ k below. case_of other_dull other_case (slice_get nodes k) below)
    base (λ k before. found k (slice_get nodes k) before) m n
  where
    found : (k : ℕ) (node : Option Node) →
        ((i : ℕ) → P (by_first dull case nodes k i) (by_first other_dull other_case nodes k i)) →
        P (case_of dull case node (by_first dull case nodes k))
        (case_of other_dull other_case node (by_first other_dull other_case nodes k))
    found k None before = base
    found k (Some node) before = keeps k node before
