-- What is found of all nodes of a plan, and what a check reports of it.
use Rattle.std.specs.Prelude.{Contains, slice_get, nat_lt, Option, position, not}
use Rattle.std.specs.List.{position_or_len}
use Rattle.std.proofs.Common.{◌≡◌, ◌⊎◌, ℕ, zero, suc, ◌+◌, ◌<◌, Bool, false, List, [], ◌∷◌, length, get_or, replicate, Some, None, inl, inr, refl, sym, ap, ◌∙◌, subst, arith}
use Rattle.std.proofs.lemmas.Bool.{cases_eq, cases_lt, cond-true, lt-ltb, not-true, not-false}
use Rattle.std.proofs.lemmas.Option.{same_Some, slice_get_within, get_or_from_slice_get}
use Rattle.std.proofs.lemmas.List.{length-replicate, get_or-replicate}
use Rattle.std.proofs.lemmas.List.Elements.{Contains-push}
use Rattle.std.proofs.lemmas.List.Quantifiers.{position-Some}
use Rattle.std.proofs.lemmas.List.Sums.{fails_before_first}
use Rattle.exec_value.specs.declared.kinds.Kind.{Kind}
use Rattle.plan_rules.specs.declared.node.Node.{Node}
use Rattle.plan_rules.specs.declared.node.Node.TheVariants.{Part}
use Rattle.plan_rules.specs.Children.{named_by}
use Rattle.plan_kinds.specs.Shapes.{Shape}
use Rattle.plan_kinds.specs.Runs.{run_by, bodies_of}
use Rattle.plan_kinds.specs.Signatures.{kinds_match}
use Rattle.plan_kinds.specs.Reached.{Reaches, KindsMatch, IsFirstMismatch}
use Rattle.plan_shape.specs.Forest.{IsForest}
use Rattle.plan_shape.specs.Blueprint.{Blueprint, IsPlan}
use Rattle.sig_check.specs.declared.finding.Finding.{Finding}
use Rattle.sig_check.specs.Checked.{AreSignatures}
use Rattle.sig_check.specs.Findings.{finding_of, IsFound, AreRight, IsUnder, Finds, FindsParts, FindsAll, is_mismatch, found_sigs}
use Rattle.plan_kinds.proofs.Placing.{run-named, body-named, no-member, before}
use Rattle.plan_kinds.proofs.OneShape.{some-shape}

-- where nothing is found of any node, nothing that is found is wrong
abbrev pub blank : Option Finding
blank = None

pub blanks-right : (nodes : List Node) (input : Kind) (findings : List (Option Finding)) (n : ℕ) →
    findings ≡ replicate n blank → n ≡ length nodes → AreRight nodes input findings
blanks-right nodes input findings n is size =
    let long : length findings ≡ n = ap length is ∙ length-replicate n blank in
    record {
      size = long ∙ size;
      each = λ k finding there a runs.
          let within : k < n = omega (arith, long, slice_get_within findings k (Some finding) there) in
          let none : get_or findings k (Some finding) ≡ blank =
          ap (λ xs. get_or xs k (Some finding)) is ∙ get_or-replicate n k blank (Some finding) within in
          let some : get_or findings k (Some finding) ≡ Some finding =
          get_or_from_slice_get findings k (Some finding) (Some finding) there in
          absurd (cc);
    }

-- something was found of each part up to here
abbrev pub PartsFound : List Node → List (Option Finding) → ℕ → Type 0
PartsFound nodes findings i =
    (n bulk part : ℕ) → n < i → slice_get nodes n ≡ Some (Part bulk part) → IsFound findings n

-- one part more, and one node that is no part
pub parts-walked : (nodes : List Node) (input : Kind) (old new : List (Option Finding)) (i : ℕ) →
    PartsFound nodes old i → Finds nodes input old (i ∷ []) new → PartsFound nodes new (i + 1)
parts-walked nodes input old new i so_far finds n bulk part within at = elim (cases_eq n i) [
  | inl same ↦ finds.found i n (Contains-push [] i) (subst (IsUnder nodes i) (sym same) IsUnder.itself)
  | inr other ↦ finds.kept n (so_far n bulk part (omega (arith, within, other)) at)
]

pub parts-passed : (nodes : List Node) (findings : List (Option Finding)) (i : ℕ) →
    PartsFound nodes findings i → ((bulk part : ℕ) → slice_get nodes i ≡ Some (Part bulk part) → ⊥) →
    PartsFound nodes findings (i + 1)
parts-passed nodes findings i so_far plain n bulk part within at = elim (cases_eq n i) [
  | inl same ↦ absurd (plain bulk part (ap (slice_get nodes) (sym same) ∙ at))
  | inr other ↦ so_far n bulk part (omega (arith, within, other)) at
]

-- a node below one that stands below another
under-more : (nodes : List Node) {m n : ℕ} → IsUnder nodes m n → (k : ℕ) (node : Node) →
    slice_get nodes n ≡ Some node → Contains (named_by node) k → IsUnder nodes m k
under-more nodes IsUnder.itself k node at among = IsUnder.deeper at among IsUnder.itself
under-more nodes (IsUnder.deeper there within under) k node at among =
    IsUnder.deeper there within (under-more nodes under k node at among)

module _ (nodes : List Node) (input : Kind) (root : ℕ) (last : length nodes ≡ root + 1) where
  -- a node that runs is a part, or stands below the root
  abbrev Stands : ℕ → Type 0
  Stands n = ((bulk : ℕ) × (part : ℕ) × (slice_get nodes n ≡ Some (Part bulk part))) ⊎ IsUnder nodes root n

  -- a part runs no node
  part-childless : (n k bulk part : ℕ) (node : Node) → slice_get nodes n ≡ Some node →
      slice_get nodes n ≡ Some (Part bulk part) → Contains (run_by node) k → Stands k
  part-childless n k bulk part node at is among =
      let one : node ≡ Part bulk part = same_Some node (Part bulk part) (sym at ∙ is) in
      no-member k (subst (λ d. Contains (run_by d) k) one among)

  part-bodiless : (n k bulk part : ℕ) (node : Node) → slice_get nodes n ≡ Some node →
      slice_get nodes n ≡ Some (Part bulk part) → Contains (bodies_of node) k → Stands k
  part-bodiless n k bulk part node at is among =
      let one : node ≡ Part bulk part = same_Some node (Part bulk part) (sym at ∙ is) in
      no-member k (subst (λ d. Contains (bodies_of d) k) one among)

  stands : {n : ℕ} {a : Shape} → Reaches nodes input n a → Stands n
  stands {n = n} (Reaches.root end) =
      let same : root ≡ n = omega (arith, end, last) in inr (subst (IsUnder nodes root) same IsUnder.itself)
  stands {n = k} (Reaches.child {n} {node = node} reached at among) = elim (stands reached) [
    | inl is ↦ part-childless n k (is.0) (is.1) node at (is.2) among
    | inr under ↦ inr (under-more nodes under k node at (run-named node k among))
  ]
  stands {n = k} (Reaches.body {n} {node = node} reached at among) = elim (stands reached) [
    | inl is ↦ part-bodiless n k (is.0) (is.1) node at (is.2) among
    | inr under ↦ inr (under-more nodes under k node at (body-named node k among))
  ]
  stands (Reaches.part {bulk = bulk} {number = part} at) = inl (bulk, part, at)

-- a node that runs is one
pub reached-within : (nodes : List Node) (input : Kind) → IsForest nodes → {n : ℕ} {a : Shape} →
    Reaches nodes input n a → n < length nodes
reached-within nodes input forest {n = n} (Reaches.root end) = omega (arith, end)
reached-within nodes input forest {n = k} (Reaches.child {n} {node = node} reached at among) =
    let less = before nodes forest n k node at (run-named node k among) in
    let within = slice_get_within nodes n node at in
    omega (arith, less, within)
reached-within nodes input forest {n = k} (Reaches.body {n} {node = node} reached at among) =
    let less = before nodes forest n k node at (body-named node k among) in
    let within = slice_get_within nodes n node at in
    omega (arith, less, within)
reached-within nodes input forest {n = n} (Reaches.part at) = slice_get_within nodes n _ at

-- after the parts and all below the root, all is found
pub all-found : (plan : Blueprint) → IsPlan plan → (old new : List (Option Finding)) (root : ℕ) →
    FindsParts plan old → Finds plan.nodes plan.settings.input old (root ∷ []) new →
    length plan.nodes ≡ root + 1 → FindsAll plan new
all-found plan is_plan old new root parts finds last = record {
  plan_is = is_plan;
  right = finds.right;
  found = λ n within.
      elim (stands plan.nodes plan.settings.input root last (some-shape plan is_plan n within).1) [
        | inl is ↦ finds.kept n (parts.found n (is.0) (is.1) (is.2))
        | inr under ↦ finds.found root n (Contains-push [] root) under
      ];
}

-- where no element passes a test
position-none : {X : Type 0} (p : X → Bool) (xs : List X) → position p xs ≡ None → (k : ℕ) (d : X) →
    k < length xs → p (get_or xs k d) ≡ false
position-none p xs none k d within = elim (cases_lt (position_or_len p xs) (length xs)) [
  | inl found ↦
      let some = cond-true (nat_lt (position_or_len p xs) (length xs)) (Some (position_or_len p xs)) None
      (lt-ltb (position_or_len p xs) (length xs) found) in
      absurd (cc)
  | inr past ↦ fails_before_first p xs k d (omega (arith, past, within))
]

module _ (plan : Blueprint) (findings : List (Option Finding)) (all : FindsAll plan findings) where
  -- what was found of a node that runs is what its kinds say
  found-of : (n : ℕ) (a : Shape) → Reaches plan.nodes plan.settings.input n a →
      slice_get findings n ≡ Some (Some (finding_of plan.nodes n a))
  found-of n a reached =
      let within = reached-within plan.nodes plan.settings.input all.plan_is.forest reached in
      let is_found = all.found n within in
      is_found.1 ∙ ap (λ f. Some (Some f)) (all.right.each n (is_found.0) is_found.1 a reached)

  -- and so is the test of it
  test-of : (n : ℕ) (a : Shape) → Reaches plan.nodes plan.settings.input n a → (d : Option Finding) →
      is_mismatch (get_or findings n d) ≡ not (kinds_match plan.nodes n a)
  test-of n a reached d =
      ap is_mismatch (get_or_from_slice_get findings n (Some (finding_of plan.nodes n a)) d (found-of n a reached))

  place-of : (n : ℕ) (a : Shape) → Reaches plan.nodes plan.settings.input n a → n < length findings
  place-of n a reached = slice_get_within findings n _ (found-of n a reached)

  -- where no mismatch was found, the kinds match
  pub kinds-matched : position is_mismatch findings ≡ None → KindsMatch plan.nodes plan.settings.input
  kinds-matched none n a reached =
      not-false (kinds_match plan.nodes n a)
      (sym (test-of n a reached None) ∙ position-none is_mismatch findings none n None (place-of n a reached))

  -- and the first that was found is the first that there is
  pub first-found : (n : ℕ) → position is_mismatch findings ≡ Some n →
      IsFirstMismatch plan.nodes plan.settings.input n
  first-found n some =
      let first = position-Some is_mismatch findings n None some in
      let room = all.right.size in
      let runs = some-shape plan all.plan_is n (omega (arith, first.0, room)) in
      record {
        here = (
          runs.0,
          runs.1,
          not-true (kinds_match plan.nodes n (runs.0)) (sym (test-of n (runs.0) runs.1 None) ∙ first.1),
        );
        before = λ k less a reached.
            not-false (kinds_match plan.nodes k a) (sym (test-of k a reached None) ∙ first.2 k less);
      }

-- the signatures of what was found, where all was
sigs-long : (findings : List (Option Finding)) → ((k : ℕ) → k < length findings → IsFound findings k) →
    length (found_sigs findings) ≡ length findings
sigs-long [] all = refl
sigs-long (Some finding ∷ findings) all =
    ap suc (sigs-long findings (λ k within. all (suc k) (omega arith)))
sigs-long (None ∷ findings) all = let wrong = all 0 (omega arith) in let here = wrong.1 in cc

sigs-at : (findings : List (Option Finding)) → ((k : ℕ) → k < length findings → IsFound findings k) →
    (n : ℕ) (finding : Finding) → slice_get findings n ≡ Some (Some finding) →
    slice_get (found_sigs findings) n ≡ Some finding.sig
sigs-at [] all n finding at = cc
sigs-at (Some one ∷ findings) all zero finding at = let same : one ≡ finding = cc in ap (λ (f : Finding). Some f.sig) same
sigs-at (Some one ∷ findings) all (suc n) finding at =
    sigs-at findings (λ k within. all (suc k) (omega arith)) n finding at
sigs-at (None ∷ findings) all n finding at = let wrong = all 0 (omega arith) in let here = wrong.1 in cc

pub signatures-found : (plan : Blueprint) (findings : List (Option Finding)) → FindsAll plan findings →
    AreSignatures plan (found_sigs findings)
signatures-found plan findings all =
    let room = all.right.size in
    let each : (k : ℕ) → k < length findings → IsFound findings k =
    λ k within. all.found k (omega (arith, within, room)) in
    record {
      size = sigs-long findings each ∙ room;
      each = λ n a reached. sigs-at findings each n (finding_of plan.nodes n a) (found-of plan findings all n a reached);
    }
