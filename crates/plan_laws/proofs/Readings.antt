-- The cases of plain evaluation and of calm records, by the nodes before and by all.
use Rattle.std.specs.Prelude.{ℤ, All, Option, Some, None, Result, Ok, slice_index, map}
use Rattle.std.proofs.Common.{◌≡◌, ℕ, ◌<◌, Bool, false, List, [], ◌∷◌, refl, sym, ap, ap₂, ◌∙◌, subst}
use Rattle.exec_value.specs.declared.data.Datum.{Datum}
use Rattle.exec_value.specs.declared.data.Datum.TheVariants.{Int}
use Rattle.exec_value.specs.declared.outcome.Completion.{Completion}
use Rattle.exec_value.specs.declared.outcome.Completion.TheVariants.{Value, Stopped}
use Rattle.exec_job.specs.declared.job.Job.{Job}
use Rattle.exec_job.specs.Apply.{apply_of}
use Rattle.plan_rules.specs.declared.node.Node.{Node}
use Rattle.plan_rules.specs.declared.node.Node.TheVariants.{Input, Then, UponError, UponStopped, LetValue, LetError, LetStopped, StartsOn, ContinuesOn, StoppedAsOptional, StoppedAsError, Bulk, WhenAll, Unstoppable, Ahead}
use Rattle.plan_rules.specs.Images.{value_data, error_data, stopped_data, then_of, upon_error_of, upon_stopped_of, as_optional, as_error}
use Rattle.plan_rules.specs.Bulks.{bulk_of}
use Rattle.plan_rules.specs.Allowed.{body_at}
use Rattle.plan_rules.specs.Settle.{unless_asked, picked_of, let_of, lets_of, all_of, ahead_of, Settled, settle_case, settle_of}
use Rattle.plan_rules.specs.Calm.{CalmBody, CalmLet, CalmFirst, CalmCase, Calm}
use Rattle.plan_rules.specs.Children.{named_by}
use Rattle.plan_laws.specs.Laws.{SettledByCase, CalmByCase}
use Rattle.plan_laws.proofs.Tables.{by_first, node-at, first-same}
use Rattle.plan_laws.proofs.Children.{HasZero, below-zero, head-of, tail-of, second-of, body-of}

picked-same : (answer : Result (List Datum) (List ℕ)) (bodies : List ℕ) (first second : ℕ → Completion) →
    ((k : ℤ) → first (body_at bodies k) ≡ second (body_at bodies k)) →
    picked_of answer bodies first ≡ picked_of answer bodies second
picked-same (Ok (Int k ∷ [])) bodies first second same = same k
picked-same answer bodies first second same = refl

let-same : (values : Option (List Datum)) (pick : Job) (bodies : List ℕ)
    (first second : ℕ → List Datum → Completion) →
    ((k : ℤ) (b : List Datum) → first (body_at bodies k) b ≡ second (body_at bodies k) b) →
    (d : Completion) → let_of values pick bodies first d ≡ let_of values pick bodies second d
let-same None pick bodies first second same d = refl
let-same (Some values) pick bodies first second same d =
    picked-same (apply_of pick values) bodies (λ n. first n values) (λ n. second n values)
    (λ k. same k values)

map-same : (These : ℕ → Type 0) (first second : ℕ → Completion) →
    ((k : ℕ) → These k → first k ≡ second k) → (xs : List ℕ) → All These xs → map first xs ≡ map second xs
map-same These first second same [] all = refl
map-same These first second same (x ∷ xs) all =
    ap₂ ◌∷◌ (same x (head-of These x xs all)) (map-same These first second same xs (tail-of These x xs all))

module _ (These : ℕ → Type 0) (zeroth : HasZero These) (first second : Settled)
    (same : (k : ℕ) → These k → (a : List Datum) (asked : Bool) → first k a asked ≡ second k a asked) where
  child-same : (x : ℕ) (xs : List ℕ) → All These (x ∷ xs) → (a : List Datum) (asked : Bool) →
      first x a asked ≡ second x a asked
  child-same x xs all a asked = same x (head-of These x xs all) a asked

  bodies-same : (channel : Completion → Option (List Datum)) (x : ℕ) (pick : Job) (xs : List ℕ) →
      All These (x ∷ xs) → (a : List Datum) (asked : Bool) →
      lets_of channel pick xs (λ n b. first n b asked) (first x a asked)
      ≡ lets_of channel pick xs (λ n b. second n b asked) (second x a asked)
  bodies-same channel x pick xs all a asked =
      let-same (channel (first x a asked)) pick xs (λ n b. first n b asked) (λ n b. second n b asked)
      (λ k b. same (body_at xs k) (body-of These zeroth x xs all k) b asked) (first x a asked)
      ∙ ap (lets_of channel pick xs (λ n b. second n b asked)) (child-same x xs all a asked)

  settle-same : (nodes : List Node) (r : ℕ) (node : Node) → All These (named_by node) →
      (a : List Datum) (asked : Bool) →
      settle_case nodes r node first a asked ≡ settle_case nodes r node second a asked
  settle-same nodes r Input all a asked = refl
  settle-same nodes r (Then x job) all a asked = ap (then_of job) (child-same x [] all a asked)
  settle-same nodes r (UponError x job) all a asked = ap (upon_error_of job) (child-same x [] all a asked)
  settle-same nodes r (UponStopped x job) all a asked =
      ap (upon_stopped_of job) (child-same x [] all a asked)
  settle-same nodes r (LetValue x pick xs) all a asked = bodies-same value_data x pick xs all a asked
  settle-same nodes r (LetError x pick xs) all a asked = bodies-same error_data x pick xs all a asked
  settle-same nodes r (LetStopped x pick xs) all a asked = bodies-same stopped_data x pick xs all a asked
  settle-same nodes r (StartsOn on x) all a asked = ap (unless_asked asked) (child-same x [] all a asked)
  settle-same nodes r (ContinuesOn x on) all a asked = ap (unless_asked asked) (child-same x [] all a asked)
  settle-same nodes r (StoppedAsOptional x of) all a asked = ap as_optional (child-same x [] all a asked)
  settle-same nodes r (StoppedAsError x e) all a asked = ap (as_error e) (child-same x [] all a asked)
  settle-same nodes r (Bulk x job) all a asked = ap (bulk_of job) (child-same x [] all a asked)
  settle-same nodes r (WhenAll xs) all a asked =
      ap (λ cs. unless_asked asked (all_of cs))
      (map-same These (λ n. first n a false) (λ n. second n a false) (λ k this. same k this a false) xs all)
  settle-same nodes r (Unstoppable x) all a asked = child-same x [] all a false
  settle-same nodes r (Ahead x y) all a asked =
      ap₂ ahead_of (child-same x (y ∷ []) all a asked) (same y (second-of These x y [] all) a asked)
  settle-same nodes r _ all a asked = refl

pub settled-by-case : SettledByCase
settled-by-case nodes ordered n node at a r asked =
    let dull : List Datum → Bool → Completion = λ _ _. Stopped in
    let first : Settled = by_first dull (settle_case nodes r) nodes n in
    let second : Settled = λ k b s. settle_of nodes k b r s in
    ap (λ (f : List Datum → Bool → Completion). f a asked) (node-at dull (settle_case nodes r) nodes n node at)
    ∙ settle-same (λ k. k < n) (below-zero n) first second
    (λ k before b s. ap (λ (f : List Datum → Bool → Completion). f b s)
    (first-same dull (settle_case nodes r) nodes n k node at before))
    nodes r node (ordered n node at) a asked

-- whether the nodes are calm, by their arguments
abbrev pub Calmness : Type 1
Calmness = ℕ → List Datum → Type 0

calm-body : (answer : Result (List Datum) (List ℕ)) (bodies : List ℕ) (First Second : ℕ → Type 0) →
    ((k : ℤ) → First (body_at bodies k) → Second (body_at bodies k)) →
    CalmBody answer bodies First → CalmBody answer bodies Second
calm-body (Ok (Int k ∷ [])) bodies First Second goes h = goes k h
calm-body answer bodies First Second goes h = h

calm-let : (values : Option (List Datum)) (pick : Job) (bodies : List ℕ) (First Second : Calmness) →
    ((k : ℤ) (b : List Datum) → First (body_at bodies k) b → Second (body_at bodies k) b) →
    CalmLet values pick bodies First → CalmLet values pick bodies Second
calm-let None pick bodies First Second goes h = h
calm-let (Some values) pick bodies First Second goes h =
    calm-body (apply_of pick values) bodies (λ n. First n values) (λ n. Second n values)
    (λ k. goes k values) h

calm-first : (d : Completion) (First Second : Type 0) → (First → Second) → CalmFirst d First → CalmFirst d Second
calm-first (Value values) First Second goes h = goes h
calm-first d First Second goes h = h

module _ (These : ℕ → Type 0) (zeroth : HasZero These) (First Second : Calmness)
    (goes : (k : ℕ) → These k → (a : List Datum) → First k a → Second k a) where
  calm-bodies : (values : Option (List Datum)) (x : ℕ) (pick : Job) (xs : List ℕ) → All These (x ∷ xs) →
      CalmLet values pick xs First → CalmLet values pick xs Second
  calm-bodies values x pick xs all h =
      calm-let values pick xs First Second (λ k. goes (body_at xs k) (body-of These zeroth x xs all k)) h

  calm-goes : (nodes : List Node) (r : ℕ) (node : Node) → All These (named_by node) → (a : List Datum) →
      CalmCase nodes r node First a → CalmCase nodes r node Second a
  calm-goes nodes r Input all a h = h
  calm-goes nodes r (Then x job) all a h = goes x (head-of These x [] all) a h
  calm-goes nodes r (UponError x job) all a h = goes x (head-of These x [] all) a h
  calm-goes nodes r (UponStopped x job) all a h = goes x (head-of These x [] all) a h
  calm-goes nodes r (LetValue x pick xs) all a h = (
    goes x (head-of These x xs all) a h.0,
    calm-bodies (value_data (settle_of nodes x a r false)) x pick xs all h.1,
  )
  calm-goes nodes r (LetError x pick xs) all a h = (
    goes x (head-of These x xs all) a h.0,
    calm-bodies (error_data (settle_of nodes x a r false)) x pick xs all h.1,
  )
  calm-goes nodes r (LetStopped x pick xs) all a h = (
    goes x (head-of These x xs all) a h.0,
    calm-bodies (stopped_data (settle_of nodes x a r false)) x pick xs all h.1,
  )
  calm-goes nodes r (StartsOn on x) all a h = goes x (head-of These x [] all) a h
  calm-goes nodes r (ContinuesOn x on) all a h = goes x (head-of These x [] all) a h
  calm-goes nodes r (StoppedAsOptional x of) all a h = goes x (head-of These x [] all) a h
  calm-goes nodes r (StoppedAsError x e) all a h = goes x (head-of These x [] all) a h
  calm-goes nodes r (Bulk x job) all a h = goes x (head-of These x [] all) a h
  calm-goes nodes r (WhenAll xs) all a h =
      λ i within. (goes (slice_index xs i) (all i 0 within) a (h i within).0, (h i within).1)
  calm-goes nodes r (Unstoppable x) all a h = goes x (head-of These x [] all) a h
  calm-goes nodes r (Ahead x y) all a h = (
    goes y (second-of These x y [] all) a h.0,
    calm-first (settle_of nodes y a r false) (First x a) (Second x a) (goes x (head-of These x (y ∷ []) all) a) h.1,
  )
  calm-goes nodes r _ all a h = h

pub calm-by-case : CalmByCase
calm-by-case nodes ordered n node at a r =
    let dull : List Datum → Type 0 = λ _. Unit {0} in
    let here = node-at dull (CalmCase nodes r) nodes n node at in
    let agree = λ (k : ℕ) (before : k < n). first-same dull (CalmCase nodes r) nodes n k node at before in
    let First : Calmness = by_first dull (CalmCase nodes r) nodes n in
    let Second : Calmness = λ k b. Calm nodes k b r in (
      λ h. calm-goes (λ k. k < n) (below-zero n) First Second
          (λ k before b x. subst (λ (M : List Datum → Type 0). M b) (agree k before) x)
          nodes r node (ordered n node at) a (subst (λ (M : List Datum → Type 0). M a) here h),
      λ h. subst (λ (M : List Datum → Type 0). M a) (sym here)
          (calm-goes (λ k. k < n) (below-zero n) Second First
          (λ k before b x. subst (λ (M : List Datum → Type 0). M b) (sym (agree k before)) x)
          nodes r node (ordered n node at) a h),
    )
