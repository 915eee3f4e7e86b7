-- What a walk over a plan finds.
use Rattle.std.specs.Prelude.{All, Contains, slice_get, Option}
use Rattle.std.specs.Option.{option_map_or}
use Rattle.std.proofs.Common.{◌≡◌, ◌⊎◌, ℕ, ◌+◌, ◌<◌, Bool, true, List, [], ◌∷◌, ◌++◌, length, get_or, set, take, Some, inl, inr, refl, sym, ap, ap₂, ◌∙◌, subst, arith}
use Rattle.std.proofs.lemmas.Bool.{cases_eq, cases_lt}
use Rattle.std.proofs.lemmas.Option.{same_Some, slice_get_within, slice_get_past, slice_get-get_or}
use Rattle.std.proofs.lemmas.List.{get_or-set_same, get_or-set_other, length-set, take_more, map-append}
use Rattle.std.proofs.lemmas.List.Elements.{All-contains_itself, All-weaker, Contains-append_cases, Contains-push_cases}
use Rattle.exec_value.specs.declared.kinds.Kind.{Kind}
use Rattle.plan_rules.specs.declared.node.Node.{Node}
use Rattle.plan_rules.specs.Children.{named_by}
use Rattle.plan_kinds.specs.Shapes.{Shape}
use Rattle.plan_kinds.specs.Runs.{run_by, bodies_of}
use Rattle.plan_kinds.specs.declared.sig.Sig.{Sig}
use Rattle.plan_kinds.specs.Values.{body_arguments, match_case}
use Rattle.plan_kinds.specs.Signatures.{Signatures, sigs_at, own_sigs, body_sigs, sig_by, sig_of, matches, kinds_match}
use Rattle.plan_kinds.specs.Reached.{Reaches}
use Rattle.plan_kinds.proofs.Signed.{signed-by-case}
use Rattle.plan_shape.specs.Forest.{IsForest}
use Rattle.plan_shape.specs.Blueprint.{Blueprint, IsPlan}
use Rattle.sig_check.specs.declared.finding.Finding.{Finding}
use Rattle.sig_check.specs.Findings.{finding_of, IsFound, AreRight, IsUnder, Finds}
use Rattle.plan_kinds.proofs.Placing.{run-named, body-named, named-cases, no-member, before}
use Rattle.plan_kinds.proofs.OneShape.{one-shape}
use Rattle.plan_kinds.proofs.Plans.{plans-built}

-- an element after a write
set-same : {X : Type 0} (xs : List X) (n : ℕ) (x : X) → n < length xs → slice_get (set xs n x) n ≡ Some x
set-same xs n x within =
    slice_get-get_or (set xs n x) n x (omega (arith, within, length-set xs n x))
    ∙ ap Some (get_or-set_same xs n x x within)

set-other : {X : Type 0} (xs : List X) (n k : ℕ) (x : X) → (k ≡ n → ⊥) →
    slice_get (set xs n x) k ≡ slice_get xs k
set-other xs n k x other = elim (cases_lt k (length xs)) [
  | inl within ↦
      slice_get-get_or (set xs n x) k x (omega (arith, within, length-set xs n x))
      ∙ ap Some (get_or-set_other xs n k x x other)
      ∙ sym (slice_get-get_or xs k x within)
  | inr past ↦
      slice_get_past (set xs n x) k (omega (arith, past, length-set xs n x)) ∙ sym (slice_get_past xs k past)
]

-- what is found stays so after a write of something found, and what is written is found
found-set : (findings : List (Option Finding)) (n k : ℕ) (finding : Finding) → n < length findings →
    IsFound findings k → IsFound (set findings n (Some finding)) k
found-set findings n k finding within is_found = elim (cases_eq k n) [
  | inl same ↦ (finding, ap (slice_get (set findings n (Some finding))) same ∙ set-same findings n (Some finding) within)
  | inr other ↦ (is_found.0, set-other findings n k (Some finding) other ∙ is_found.1)
]

-- a node below another is it, or stands below one that it names
under-cases : (nodes : List Node) {n k : ℕ} → IsUnder nodes n k →
    (n ≡ k) ⊎ ((c : ℕ) × (node : Node) × (slice_get nodes n ≡ Some node) × Contains (named_by node) c × IsUnder nodes c k)
under-cases nodes IsUnder.itself = inl refl
under-cases nodes (IsUnder.deeper {c = c} {node = node} at among under) = inr (c, node, at, among, under)

module _ (nodes : List Node) (input : Kind) (n : ℕ) (node : Node) (at : slice_get nodes n ≡ Some node) where
  -- the children and the bodies of a node that runs run too, and stand before it
  pub children-run : (a : Shape) → Reaches nodes input n a →
      All (λ k. Reaches nodes input k a) (run_by node)
  children-run a reached =
      All-weaker (Contains (run_by node)) (λ k. Reaches nodes input k a)
      (λ k among. Reaches.child reached at among) (run_by node) (All-contains_itself (run_by node))

  pub bodies-run : (a : Shape) → Reaches nodes input n a →
      All (λ k. Reaches nodes input k (body_arguments node (own_sigs (sig_of nodes) node a))) (bodies_of node)
  bodies-run a reached =
      All-weaker (Contains (bodies_of node))
      (λ k. Reaches nodes input k (body_arguments node (own_sigs (sig_of nodes) node a)))
      (λ k among. Reaches.body reached at among) (bodies_of node) (All-contains_itself (bodies_of node))

  pub children-before : IsForest nodes → All (λ k. k < n) (run_by node)
  children-before forest =
      All-weaker (Contains (run_by node)) (λ k. k < n)
      (λ k among. before nodes forest n k node at (run-named node k among))
      (run_by node) (All-contains_itself (run_by node))

  pub bodies-before : IsForest nodes → All (λ k. k < n) (bodies_of node)
  bodies-before forest =
      All-weaker (Contains (bodies_of node)) (λ k. k < n)
      (λ k among. before nodes forest n k node at (body-named node k among))
      (bodies_of node) (All-contains_itself (bodies_of node))

  module _ (forest : IsForest nodes) (a : Shape) (reached : Reaches nodes input n a)
      (old children bodies : List (Option Finding)) (finding : Finding)
      (own : Finds nodes input old (run_by node) children)
      (behind : Finds nodes input children (bodies_of node) bodies)
      (is : finding ≡ finding_of nodes n a) where
    abbrev new : List (Option Finding)
    new = set bodies n (Some finding)

    within : n < length bodies
    within = let room = behind.right.size in omega (arith, room, slice_get_within nodes n node at)

    right-new : AreRight nodes input new
    right-new = record {
      size = length-set bodies n (Some finding) ∙ behind.right.size;
      each = λ k found there b runs. elim (cases_eq k n) [
        | inl same ↦
            let seen : Some finding ≡ Some found =
            same_Some (Some finding) (Some found)
            (sym (set-same bodies n (Some finding) within) ∙ ap (slice_get new) (sym same) ∙ there) in
            let shape : a ≡ b =
            one-shape nodes input forest n a b reached (subst (λ i. Reaches nodes input i b) same runs) in
            sym (same_Some finding found seen) ∙ is ∙ ap (finding_of nodes n) shape
            ∙ ap (λ i. finding_of nodes i b) (sym same)
        | inr other ↦
            behind.right.each k found (sym (set-other bodies n k (Some finding) other) ∙ there) b runs
      ];
    }

    found-new : (k : ℕ) → IsUnder nodes n k → IsFound new k
    found-new k under = elim (under-cases nodes under) [
      | inl same ↦
          (finding, ap (slice_get new) (sym same) ∙ set-same bodies n (Some finding) within)
      | inr x ↦
          let one : x.1 ≡ node = same_Some (x.1) node (sym x.2 ∙ at) in
          let among : Contains (named_by node) (x.0) = subst (λ d. Contains (named_by d) (x.0)) one x.3 in
          found-set bodies n k finding within (elim (named-cases node (x.0) among) [
            | inl child ↦ behind.kept k (own.found (x.0) k child x.4)
            | inr body ↦ behind.found (x.0) k body x.4
          ])
    ]

    -- a node's own finding after those of its children and of its bodies
    pub finds-node : Finds nodes input old (n ∷ []) new
    finds-node = record {
      right = right-new;
      kept = λ k there. found-set bodies n k finding within (behind.kept k (own.kept k there));
      found = λ m k among under. elim (Contains-push_cases [] n m among) [
        | inl none ↦ no-member m none
        | inr same ↦ found-new k (subst (λ i. IsUnder nodes i k) (sym same) under)
      ];
    }

-- one node after others
pub finds-append : (nodes : List Node) (input : Kind) (old some all : List (Option Finding)) (xs : List ℕ)
    (x : ℕ) → Finds nodes input old xs some → Finds nodes input some (x ∷ []) all →
    Finds nodes input old (xs ++ x ∷ []) all
finds-append nodes input old some all xs x first next = record {
  right = next.right;
  kept = λ k there. next.kept k (first.kept k there);
  found = λ m k among under. elim (Contains-append_cases xs (x ∷ []) m among) [
    | inl here ↦ next.kept k (first.found m k here under)
    | inr there ↦ next.found m k there under
  ];
}

-- no node yet
pub finds-none : (nodes : List Node) (input : Kind) (old : List (Option Finding)) → AreRight nodes input old →
    Finds nodes input old [] old
finds-none nodes input old right =
    record { right = right; kept = λ k there. there; found = λ m k among under. no-member m among }

-- the signatures of one node more
pub sigs-more : (below : Signatures) (a : Shape) (xs : List ℕ) (i : ℕ) → i < length xs →
    sigs_at below (take (i + 1) xs) a ≡ sigs_at below (take i xs) a ++ below (get_or xs i 0) a ∷ []
sigs-more below a xs i within =
    ap (λ l. sigs_at below l a) (take_more xs i 0 within)
    ∙ map-append (λ n. below n a) (take i xs) (get_or xs i 0 ∷ [])

pub finds-more : (nodes : List Node) (input : Kind) (old some all : List (Option Finding)) (xs : List ℕ)
    (i : ℕ) → i < length xs → Finds nodes input old (take i xs) some →
    Finds nodes input some (get_or xs i 0 ∷ []) all → Finds nodes input old (take (i + 1) xs) all
finds-more nodes input old some all xs i within first next =
    subst (λ l. Finds nodes input old l all) (sym (take_more xs i 0 within))
    (finds-append nodes input old some all (take i xs) (get_or xs i 0) first next)

-- the signatures of a node's children and of its bodies, as a walk has them
module _ (below : Signatures) (node : Node) (a : Shape) where
  pub own-known : (children : List ℕ) (own : List Sig) → children ≡ run_by node →
      own ≡ sigs_at below children a → own ≡ own_sigs below node a
  own-known children own listed sigs = sigs ∙ ap (λ l. sigs_at below l a) listed

  pub behind-known : (own : List Sig) (b : Shape) (bodies : List ℕ) (behind : List Sig) →
      own ≡ own_sigs below node a → b ≡ body_arguments node own → bodies ≡ bodies_of node →
      behind ≡ sigs_at below bodies b → behind ≡ body_sigs below node a
  behind-known own b bodies behind known shape listed sigs =
      sigs ∙ ap₂ (sigs_at below) listed (shape ∙ ap (body_arguments node) known)

-- what is found of a node by what was found of those that it runs
module _ (plan : Blueprint) (is_plan : IsPlan plan) (n : ℕ) (node : Node)
    (at : slice_get plan.nodes n ≡ Some node) (a : Shape) (own behind : List Sig)
    (children : own ≡ own_sigs (sig_of plan.nodes) node a)
    (bodies : behind ≡ body_sigs (sig_of plan.nodes) node a) where
  pub sig-found : sig_by plan.nodes node a own behind ≡ sig_of plan.nodes n a
  sig-found =
      ap₂ (sig_by plan.nodes node a) children bodies
      ∙ sym (signed-by-case plan.nodes (plans-built plan is_plan).ordered n node at a)

  match-found : match_case node own behind ≡ kinds_match plan.nodes n a
  match-found =
      ap₂ (match_case node) children bodies
      ∙ sym (ap (λ o. option_map_or (λ one. matches plan.nodes one a) o true) at)

  pub finding-found : (finding : Finding) → finding.sig ≡ sig_by plan.nodes node a own behind →
      finding.matches ≡ match_case node own behind → finding ≡ finding_of plan.nodes n a
  finding-found finding sig match =
      let make : Sig → Bool → Finding = λ s m. record { sig = s; matches = m } in
      ap₂ make (sig ∙ sig-found) (match ∙ match-found)
