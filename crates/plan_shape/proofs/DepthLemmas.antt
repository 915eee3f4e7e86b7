-- Depths: what is defined of each node by what is defined of those before it.
use Rattle.std.proofs.Common.{◌≡◌, ℕ, zero, suc, ◌+◌, ◌<◌, ◌≤◌, max, List, [], ◌++◌, length, refl, sym, ap, ◌∙◌, inl, inr, arith}
use Rattle.std.specs.Prelude.{◌==◌, All, fold}
use Rattle.std.specs.Option.{option_map_or}
use Rattle.std.proofs.lemmas.Bool.{cases_eq, eq-eqb, ne_eqb}
use Rattle.std.proofs.lemmas.List.Elements.{All-weaker}
use Rattle.plan_rules.specs.declared.node.Node.{Node}
use Rattle.plan_rules.specs.Tables.{table, choose}
use Rattle.plan_shape.specs.Children.{children_of, children_at}
use Rattle.plan_shape.specs.Depths.{depth_over, depth_of}
use Rattle.common_lemmas.proofs.Lists.{slice_get-append_left}
use Rattle.plan_shape.proofs.ListLemmas.{map-same}

-- what a table has at n was made from what it has before n
pub table-at : {A : Type 0} (dull : A) (step : ℕ → (ℕ → A) → A) (m n : ℕ) → n < m →
    table dull step m n ≡ step n (table dull step n)
table-at dull step zero n l = absurd (omega arith)
table-at dull step (suc m) n l =
    elim (cases_eq n m) [
      | inl at ↦
          ap (λ b. choose b (step m (table dull step m)) (table dull step m n)) (eq-eqb n m at)
          ∙ ap (λ k. step k (table dull step k)) (sym at)
      | inr other ↦
          ap (λ b. choose b (step m (table dull step m)) (table dull step m n)) (ne_eqb n m other)
          ∙ table-at dull step m n (omega (arith, other))
    ]

-- steps that agree make one table
pub table-same : {A : Type 0} (dull : A) (step other : ℕ → (ℕ → A) → A) (m : ℕ) →
    ((k : ℕ) (f : ℕ → A) → k < m → step k f ≡ other k f) → (n : ℕ) → table dull step m n ≡ table dull other m n
table-same dull step other zero h n = refl
table-same dull step other (suc m) h n =
    let below : (k : ℕ) → table dull step m k ≡ table dull other m k =
    table-same dull step other m (λ k f l. h k f (omega arith)) in
    let whole : table dull step m ≡ table dull other m = λ i k. below k i in
    ap (λ f. choose (n == m) (step m f) (f n)) whole
    ∙ ap (λ x. choose (n == m) x (table dull other m n)) (h m (table dull other m) (omega arith))

abbrev depth_step : List Node → ℕ → (ℕ → ℕ) → ℕ
depth_step nodes m below = depth_over below (children_at nodes m)

pub children_at-append : (nodes more : List Node) (k : ℕ) → k < length nodes →
    children_at (nodes ++ more) k ≡ children_at nodes k
children_at-append nodes more k l =
    ap (λ o. option_map_or (children_of k) o []) (slice_get-append_left nodes more k l)

-- a node's depth comes from those of its children
pub depth_of-at : (nodes : List Node) (n : ℕ) → n < length nodes → All (λ c. c < n) (children_at nodes n) →
    depth_of nodes n ≡ depth_over (depth_of nodes) (children_at nodes n)
depth_of-at nodes n l below =
    let step = depth_step nodes in
    table-at 0 step (length nodes) n l
    ∙ ap (λ ds. 1 + fold max 0 ds)
    (map-same (table 0 step n) (depth_of nodes) (children_at nodes n)
    (All-weaker (λ c. c < n) (λ c. table 0 step n c ≡ depth_of nodes c)
    (λ c h. table-at 0 step n c h ∙ sym (table-at 0 step (length nodes) c (omega arith))) (children_at nodes n) below))

-- more nodes leave the depths of those before them
pub depth_of-append : (nodes more : List Node) (k : ℕ) → k < length nodes → length nodes ≤ length (nodes ++ more) →
    depth_of (nodes ++ more) k ≡ depth_of nodes k
depth_of-append nodes more k l longer =
    let old = depth_step nodes in
    let new = depth_step (nodes ++ more) in
    let below : (n : ℕ) → table 0 new k n ≡ table 0 old k n =
    table-same 0 new old k (λ m f h. ap (depth_over f) (children_at-append nodes more m (omega arith))) in
    let whole : table 0 new k ≡ table 0 old k = λ i n. below n i in
    table-at 0 new (length (nodes ++ more)) k (omega arith)
    ∙ ap (λ f. depth_over f (children_at (nodes ++ more) k)) whole
    ∙ ap (depth_over (table 0 old k)) (children_at-append nodes more k l)
    ∙ sym (table-at 0 old (length nodes) k l)

pub depth_of-positive : (nodes : List Node) (n : ℕ) → n < length nodes → 1 ≤ depth_of nodes n
depth_of-positive nodes n l =
    let at = table-at 0 (depth_step nodes) (length nodes) n l in omega (arith, at)
