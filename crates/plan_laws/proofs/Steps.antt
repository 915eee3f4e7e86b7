-- What a node may complete with, by what its children may: the cases, kind by kind.
use Rattle.std.specs.Prelude.{All, Option, Some, slice_index, slice_get}
use Rattle.std.proofs.Common.{◌≡◌, ℕ, ◌<◌, Bool, false, List, [], ◌∷◌, length, sym, subst}
use Rattle.exec_value.specs.declared.data.Datum.{Datum}
use Rattle.exec_value.specs.declared.outcome.Completion.{Completion}
use Rattle.exec_value.specs.declared.outcome.Completion.TheVariants.{Value, Stopped}
use Rattle.exec_job.specs.declared.job.Job.{Job}
use Rattle.plan_rules.specs.declared.node.Node.{Node}
use Rattle.plan_rules.specs.declared.node.Node.TheVariants.{Schedule, Delay, ReadEnv, Then, UponError, UponStopped, LetValue, LetError, LetStopped, StartsOn, ContinuesOn, StoppedAsOptional, StoppedAsError, Bulk, WhenAll, Unstoppable, Ahead}
use Rattle.plan_rules.specs.declared.stop.StopState.{StopState}
use Rattle.plan_rules.specs.declared.stop.StopState.TheVariants.{Never, May}
use Rattle.plan_rules.specs.Images.{value_data, error_data, stopped_data, then_of, upon_error_of, upon_stopped_of, as_optional, as_error}
use Rattle.plan_rules.specs.Bulks.{bulk_of}
use Rattle.plan_rules.specs.Allowed.{Meaning, Case, Allowed, AllOf, Lets, body_at}
use Rattle.plan_rules.specs.Children.{named_by}
use Rattle.plan_laws.specs.Order.{IsOrdered}
use Rattle.plan_laws.specs.Laws.{AllowedByCase}
use Rattle.plan_laws.proofs.Tables.{by_first, node-at, first-same}
use Rattle.plan_laws.proofs.Children.{HasZero, below-zero, head-of, second-of, body-of}
use Rattle.plan_laws.proofs.Parts.{Goes, rise, stopped-goes, image-goes, asks-goes, lets-go, all-goes, joined-goes}

-- a number that is no node counts as stopped
abbrev pub absent : Meaning
absent a q c = c ≡ Stopped

-- what the first m nodes allow
abbrev pub first_allowed : List Node → ℕ → ℕ → ℕ → Meaning
first_allowed nodes r m = by_first absent (Case nodes r) nodes m

-- what these nodes may complete with goes on, under the same stop state or where a stop may come
abbrev pub NodesGo : Bool → (ℕ → Type 0) → (ℕ → Meaning) → (ℕ → Meaning) → Type 0
NodesGo up These First Second =
    (k : ℕ) → These k → (a : List Datum) (q : StopState) (c : Completion) →
    First k a q c → Second k a (rise up q) c

module _ (up : Bool) (These : ℕ → Type 0) (zeroth : HasZero These) (First Second : ℕ → Meaning)
    (same : NodesGo false These First Second) (raised : NodesGo up These First Second) where
  child-goes : (x : ℕ) (xs : List ℕ) → All These (x ∷ xs) → (a : List Datum) (q : StopState) →
      Goes (First x a q) (Second x a (rise up q))
  child-goes x xs all a q c h = raised x (head-of These x xs all) a q c h

  bodies-go : (channel : Completion → Option (List Datum)) (x : ℕ) (pick : Job) (xs : List ℕ) →
      All These (x ∷ xs) → (a : List Datum) (q : StopState) →
      Goes (Lets channel pick xs (λ n values d. First n values q d) (First x a q))
      (Lets channel pick xs (λ n values d. Second n values (rise up q) d) (Second x a (rise up q)))
  bodies-go channel x pick xs all a q =
      lets-go channel pick xs (λ n values d. First n values q d) (λ n values d. Second n values (rise up q) d)
      (λ k values d h. raised (body_at xs k) (body-of These zeroth x xs all k) values q d h)
      (First x a q) (Second x a (rise up q)) (child-goes x xs all a q)

  -- a case goes on as its children do
  pub case_goes : (nodes : List Node) (r : ℕ) (node : Node) → All These (named_by node) →
      (a : List Datum) (q : StopState) →
      Goes (Case nodes r node First a q) (Case nodes r node Second a (rise up q))
  case_goes nodes r (Schedule on) all a q c h =
      stopped-goes up q (λ d. d ≡ Value []) (λ d. d ≡ Value []) (λ d x. x) c h
  case_goes nodes r (Delay turns) all a q c h =
      stopped-goes up q (λ d. d ≡ Value []) (λ d. d ≡ Value []) (λ d x. x) c h
  case_goes nodes r (ReadEnv query) all a q c h = asks-goes up query r q c h
  case_goes nodes r (Then x job) all a q c h =
      image-goes (then_of job) (First x a q) (Second x a (rise up q)) (child-goes x [] all a q) c h
  case_goes nodes r (UponError x job) all a q c h =
      image-goes (upon_error_of job) (First x a q) (Second x a (rise up q)) (child-goes x [] all a q) c h
  case_goes nodes r (UponStopped x job) all a q c h =
      image-goes (upon_stopped_of job) (First x a q) (Second x a (rise up q)) (child-goes x [] all a q) c h
  case_goes nodes r (LetValue x pick xs) all a q c h = bodies-go value_data x pick xs all a q c h
  case_goes nodes r (LetError x pick xs) all a q c h = bodies-go error_data x pick xs all a q c h
  case_goes nodes r (LetStopped x pick xs) all a q c h = bodies-go stopped_data x pick xs all a q c h
  case_goes nodes r (StartsOn on x) all a q c h =
      stopped-goes up q (First x a q) (Second x a (rise up q)) (child-goes x [] all a q) c h
  case_goes nodes r (ContinuesOn x on) all a q c h =
      stopped-goes up q (First x a q) (Second x a (rise up q)) (child-goes x [] all a q) c h
  case_goes nodes r (StoppedAsOptional x of) all a q c h =
      image-goes as_optional (First x a q) (Second x a (rise up q)) (child-goes x [] all a q) c h
  case_goes nodes r (StoppedAsError x e) all a q c h =
      image-goes (as_error e) (First x a q) (Second x a (rise up q)) (child-goes x [] all a q) c h
  case_goes nodes r (Bulk x job) all a q c h =
      image-goes (bulk_of job) (First x a q) (Second x a (rise up q)) (child-goes x [] all a q) c h
  case_goes nodes r (WhenAll xs) all a q c h =
      let first : StopState → ℕ → Completion → Type 0 = λ s i d. First (slice_index xs i) a s d in
      let second : StopState → ℕ → Completion → Type 0 = λ s i d. Second (slice_index xs i) a s d in
      stopped-goes up q (AllOf first q (length xs)) (AllOf second (rise up q) (length xs))
      (all-goes up q (length xs) first second
      (λ i within d x. raised (slice_index xs i) (all i 0 within) a q d x)
      (λ i within d x. same (slice_index xs i) (all i 0 within) a May d x)) c h
  case_goes nodes r (Unstoppable x) all a q c h = same x (head-of These x [] all) a Never c h
  case_goes nodes r (Ahead x y) all a q c h =
      joined-goes (First x a q) (Second x a (rise up q)) (First y a q) (Second y a (rise up q))
      (child-goes x (y ∷ []) all a q)
      (λ d z. raised y (second-of These x y [] all) a q d z) c h
  case_goes nodes r _ all a q c h = h

-- the two readings of an ordered node's case agree: by the nodes before it and by all
case-same : (nodes : List Node) → IsOrdered nodes → (n : ℕ) (node : Node) → slice_get nodes n ≡ Some node →
    (r : ℕ) (First Second : ℕ → Meaning) → ((k : ℕ) → k < n → First k ≡ Second k) →
    (a : List Datum) (q : StopState) → Goes (Case nodes r node First a q) (Case nodes r node Second a q)
case-same nodes ordered n node at r First Second agree =
    let go : NodesGo false (λ k. k < n) First Second =
    λ k before a q c h. subst (λ (M : Meaning). M a q c) (agree k before) h in
    case_goes false (λ k. k < n) (below-zero n) First Second go go nodes r node (ordered n node at)

pub allowed-by-case : AllowedByCase
allowed-by-case nodes ordered n node at a r q c =
    let here = node-at absent (Case nodes r) nodes n node at in
    let agree = λ (k : ℕ) (before : k < n). first-same absent (Case nodes r) nodes n k node at before in
    let first : ℕ → Meaning = first_allowed nodes r n in
    let whole : ℕ → Meaning = λ k b s d. Allowed nodes k b r s d in (
      λ h. case-same nodes ordered n node at r first whole agree a q c
          (subst (λ (M : Meaning). M a q c) here h),
      λ h. subst (λ (M : Meaning). M a q c) (sym here)
          (case-same nodes ordered n node at r whole first (λ k before. sym (agree k before)) a q c h),
    )
