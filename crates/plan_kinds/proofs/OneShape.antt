-- Each node of a plan runs under arguments of one shape.
use Rattle.std.specs.Prelude.{Contains, nat_eq, slice_get}
use Rattle.std.specs.List.{list_any, range_with_len}
use Rattle.std.specs.Option.{option_map_or, is_none}
use Rattle.std.proofs.Common.{◌≡◌, ℕ, zero, suc, ◌+◌, ◌-◌, ◌<◌, ◌≤◌, true, List, [], ◌∷◌, length, Option, Some, None, inl, inr, refl, sym, ap, ◌∙◌, subst, arith}
use Rattle.std.proofs.lemmas.Bool.{cases_eq, cases_lt, and_from, or_cases, lt-ltb, eqb-true, false≢true}
use Rattle.std.proofs.lemmas.Option.{same_Some, slice_get_within}
use Rattle.std.proofs.lemmas.List.Folds.{list_any-append}
use Rattle.std.proofs.lemmas.Map.Views.{Contains-from_any}
use Rattle.exec_value.specs.declared.kinds.Kind.{Kind}
use Rattle.exec_value.specs.declared.kinds.Kind.TheVariants.{Int, Row}
use Rattle.plan_rules.specs.declared.node.Node.{Node}
use Rattle.plan_rules.specs.declared.node.Node.TheVariants.{Part}
use Rattle.plan_rules.specs.Children.{named_by}
use Rattle.plan_kinds.specs.Shapes.{Shape}
use Rattle.plan_kinds.specs.Runs.{run_by, bodies_of}
use Rattle.plan_kinds.specs.Values.{body_arguments}
use Rattle.plan_kinds.specs.Signatures.{own_sigs, sig_of}
use Rattle.plan_kinds.specs.Reached.{Reaches}
use Rattle.plan_shape.specs.Children.{children_of, part_count}
use Rattle.plan_shape.specs.Parents.{is_child, parent_of}
use Rattle.plan_shape.specs.Forest.{IsForest}
use Rattle.plan_shape.specs.Blueprint.{Blueprint, IsPlan}
use Rattle.plan_shape.proofs.ForestLaws.{node_at, parent_later}
use Rattle.plan_shape.proofs.ListLemmas.{range_below, range_above}
use Rattle.plan_shape.proofs.LeastLemmas.{least-IsLeast}
use Rattle.plan_kinds.specs.PlanLaws.{NodesRunUnderOneShape}
use Rattle.plan_kinds.proofs.Placing.{run-named, body-named, named-cases, before, one-parent, no-part, part-before, child-no_body}

-- whence a node has its arguments
data Origin (nodes : List Node) (input : Kind) (k : ℕ) (b : Shape) : Type 0 where
  from_root : length nodes ≡ k + 1 → b ≡ Some (input ∷ []) → Origin nodes input k b
  from_parent : (n : ℕ) (node : Node) (a : Shape) → Reaches nodes input n a → slice_get nodes n ≡ Some node →
      Contains (run_by node) k → b ≡ a → Origin nodes input k b
  from_let : (n : ℕ) (node : Node) (a : Shape) → Reaches nodes input n a → slice_get nodes n ≡ Some node →
      Contains (bodies_of node) k → b ≡ body_arguments node (own_sigs (sig_of nodes) node a) →
      Origin nodes input k b
  from_bulk : (bulk part : ℕ) → slice_get nodes k ≡ Some (Part bulk part) → b ≡ Some (Row ∷ Int ∷ []) →
      Origin nodes input k b

origin-of : (nodes : List Node) (input : Kind) {k : ℕ} {b : Shape} → Reaches nodes input k b →
    Origin nodes input k b
origin-of nodes input (Reaches.root last) = from_root last refl
origin-of nodes input (Reaches.child {n} {node = node} {a = a} reached at among) =
    from_parent n node a reached at among refl
origin-of nodes input (Reaches.body {n} {node = node} {a = a} reached at among) =
    from_let n node a reached at among refl
origin-of nodes input (Reaches.part {bulk = bulk} {number = part} at) = from_bulk bulk part at refl

module _ (nodes : List Node) (input : Kind) (forest : IsForest nodes) where
  -- neither the root nor a part is named, and the root is no part
  root-unnamed : (n k : ℕ) (node : Node) → length nodes ≡ k + 1 → slice_get nodes n ≡ Some node →
      Contains (named_by node) k → ⊥
  root-unnamed n k node last at among =
      let less = before nodes forest n k node at among in
      let within = slice_get_within nodes n node at in
      omega (arith, less, within, last)

  root-no_part : (k bulk part : ℕ) → length nodes ≡ k + 1 → slice_get nodes k ≡ Some (Part bulk part) → ⊥
  root-no_part k bulk part last is =
      let stands = part-before nodes forest k bulk part is in omega (arith, stands.0, stands.1, last)

  -- two nodes that name one are the same
  same-node : (n m k : ℕ) (node other : Node) → slice_get nodes n ≡ Some node →
      slice_get nodes m ≡ Some other → Contains (named_by node) k → Contains (named_by other) k → node ≡ other
  same-node n m k node other at there among within =
      let same = one-parent nodes forest n m k node other at there among within in
      same_Some node other (sym at ∙ ap (slice_get nodes) same ∙ there)

  same-shape : {k : ℕ} {a : Shape} → Reaches nodes input k a → (b : Shape) → Origin nodes input k b → a ≡ b
  same-shape {k} (Reaches.root last) b origin = elim origin [
    | from_root end e ↦ sym e
    | from_parent m other c above there within e ↦
        absurd (root-unnamed m k other last there (run-named other k within))
    | from_let m other c above there within e ↦
        absurd (root-unnamed m k other last there (body-named other k within))
    | from_bulk bulk part is e ↦ absurd (root-no_part k bulk part last is)
  ]
  same-shape {k} (Reaches.child {n} {node = node} {a = a} reached at among) b origin = elim origin [
    | from_root end e ↦ absurd (root-unnamed n k node end at (run-named node k among))
    | from_parent m other c above there within e ↦
        let same = one-parent nodes forest n m k node other at there (run-named node k among) (run-named other k within) in
        same-shape reached c (origin-of nodes input (subst (λ i. Reaches nodes input i c) (sym same) above)) ∙ sym e
    | from_let m other c above there within e ↦
        let one = same-node n m k node other at there (run-named node k among) (body-named other k within) in
        absurd (child-no_body nodes forest n k node at among (subst (λ d. Contains (bodies_of d) k) (sym one) within))
    | from_bulk bulk part is e ↦ absurd (no-part nodes forest n k bulk part node at (run-named node k among) is)
  ]
  same-shape {k} (Reaches.body {n} {node = node} {a = a} reached at among) b origin = elim origin [
    | from_root end e ↦ absurd (root-unnamed n k node end at (body-named node k among))
    | from_parent m other c above there within e ↦
        let one = same-node n m k node other at there (body-named node k among) (run-named other k within) in
        absurd (child-no_body nodes forest n k node at (subst (λ d. Contains (run_by d) k) (sym one) within) among)
    | from_let m other c above there within e ↦
        let same = one-parent nodes forest n m k node other at there (body-named node k among) (body-named other k within) in
        let one = same-node n m k node other at there (body-named node k among) (body-named other k within) in
        let shapes = same-shape reached c (origin-of nodes input (subst (λ i. Reaches nodes input i c) (sym same) above)) in
        ap (λ d. body_arguments node (own_sigs (sig_of nodes) node d)) shapes
        ∙ ap (λ d. body_arguments d (own_sigs (sig_of nodes) d c)) one ∙ sym e
    | from_bulk bulk part is e ↦ absurd (no-part nodes forest n k bulk part node at (body-named node k among) is)
  ]
  same-shape {k} (Reaches.part {bulk = bulk} {number = part} is) b origin = elim origin [
    | from_root end e ↦ absurd (root-no_part k bulk part end is)
    | from_parent m other c above there within e ↦
        absurd (no-part nodes forest m k bulk part other there (run-named other k within) is)
    | from_let m other c above there within e ↦
        absurd (no-part nodes forest m k bulk part other there (body-named other k within) is)
    | from_bulk owner number same e ↦ sym e
  ]

  -- a node runs under no two shapes
  pub one-shape : (k : ℕ) (a b : Shape) → Reaches nodes input k a → Reaches nodes input k b → a ≡ b
  one-shape k a b first second = same-shape first b (origin-of nodes input second)

-- and under one
module _ (plan : Blueprint) (is_plan : IsPlan plan) where
  abbrev Runs : ℕ → Type 0
  Runs n = (a : Shape) × Reaches plan.nodes plan.settings.input n a

  -- as a part, where it is among the parts of a bulk
  runs-part : (n p : ℕ) (node : Node) → slice_get plan.nodes p ≡ Some node →
      list_any (nat_eq n) (range_with_len (p - part_count node) (part_count node)) ≡ true → Runs n
  runs-part n p node at among =
      let count : ℕ = part_count node in
      elim (cases_lt n (p - count)) [
        | inl low ↦ absurd (false≢true (sym (range_below (p - count) count n low) ∙ among))
        | inr high ↦ elim (cases_lt n (p - count + count)) [
          | inl within ↦
              let here : p - count + (n - (p - count)) ≡ n = omega arith in
              let part = (is_plan.forest.each p node at).parts (n - (p - count)) (omega arith) in
              (Some (Row ∷ Int ∷ []), Reaches.part (ap (slice_get plan.nodes) (sym here) ∙ part))
          | inr past ↦ absurd (false≢true (sym (range_above (p - count) count n past) ∙ among))
        ]
      ]

  -- as a child or a body of a node that runs
  runs-named : (n p : ℕ) (node : Node) → slice_get plan.nodes p ≡ Some node → Contains (named_by node) n →
      Runs p → Runs n
  runs-named n p node at among above = elim (named-cases node n among) [
    | inl run ↦ (above.0, Reaches.child above.1 at run)
    | inr body ↦ (_, Reaches.body above.1 at body)
  ]

  runs-below : (m n : ℕ) → length plan.nodes ≤ n + m → n < length plan.nodes → Runs n
  runs-below zero n most within = absurd (omega arith)
  runs-below (suc m) n most within = elim (cases_eq (n + 1) (length plan.nodes)) [
    | inl last ↦ (Some (plan.settings.input ∷ []), Reaches.root (sym last))
    | inr other ↦ parted (parent_of plan.nodes n) refl
        (λ p later known. runs-below m p (omega (arith, later, most)) known) other
  ]
    where
      parted : (found : Option ℕ) → parent_of plan.nodes n ≡ found →
          ((p : ℕ) → n < p → p < length plan.nodes → Runs p) → (n + 1 ≡ length plan.nodes → ⊥) → Runs n
      parted None none above other =
          absurd (other ((is_plan.root n).0 (and_from _ (is_none (parent_of plan.nodes n))
          (lt-ltb n (length plan.nodes) within) (ap is_none none))))
      parted (Some p) found above other =
          let later = parent_later plan.nodes n p is_plan.forest found in
          node_at plan.nodes p later.1 (λ node at.
          let least = least-IsLeast (is_child plan.nodes n) (length plan.nodes) p found in
          let named : list_any (nat_eq n) (children_of p node) ≡ true =
          ap (λ o. list_any (nat_eq n) (option_map_or (children_of p) o [])) (sym at) ∙ least.passes in
          let parts : List ℕ = range_with_len (p - part_count node) (part_count node) in
          elim (or_cases (list_any (nat_eq n) (named_by node)) (list_any (nat_eq n) parts)
          (sym (list_any-append (nat_eq n) (named_by node) parts) ∙ named)) [
            | inl among ↦ runs-named n p node at (Contains-from_any eqb-true n (named_by node) among)
                (above p later.0 later.1)
            | inr among ↦ runs-part n p node at among
          ])

  pub some-shape : (n : ℕ) → n < length plan.nodes → Runs n
  some-shape n within = runs-below (length plan.nodes) n (omega arith) within

pub run-under_one_shape : NodesRunUnderOneShape
run-under_one_shape plan is_plan n within =
    let runs = some-shape plan is_plan n within in
    (runs.0, runs.1, λ b reached. one-shape plan.nodes plan.settings.input is_plan.forest n b runs.0 reached runs.1)
