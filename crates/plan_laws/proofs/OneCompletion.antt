-- A calm record has one completion where no stop comes.
use Rattle.std.specs.Prelude.{ℤ, All, Option, Some, None, Result, Ok, slice_index, map}
use Rattle.std.proofs.Common.{◌≡◌, ℕ, zero, suc, ◌<◌, Bool, false, List, [], ◌∷◌, length, refl, sym, ap, ◌∙◌, subst, inl, inr, arith}
use Rattle.std.proofs.lemmas.Option.{slice_get_cases}
use Rattle.exec_value.specs.declared.data.Datum.{Datum}
use Rattle.exec_value.specs.declared.data.Datum.TheVariants.{Int}
use Rattle.exec_value.specs.declared.outcome.Completion.{Completion}
use Rattle.exec_value.specs.declared.outcome.Completion.TheVariants.{Value, Error, Stopped, NoMemory}
use Rattle.exec_job.specs.declared.job.Job.{Job}
use Rattle.exec_job.specs.Apply.{apply_of}
use Rattle.plan_rules.specs.declared.node.Node.{Node}
use Rattle.plan_rules.specs.declared.node.Node.TheVariants.{Input, ReadEnv, Then, UponError, UponStopped, LetValue, LetError, LetStopped, StartsOn, ContinuesOn, StoppedAsOptional, StoppedAsError, Bulk, WhenAll, Unstoppable, Ahead}
use Rattle.plan_rules.specs.declared.node.Query.{Query}
use Rattle.plan_rules.specs.declared.node.Query.TheVariants.{Stop, Record}
use Rattle.plan_rules.specs.declared.stop.StopState.{StopState}
use Rattle.plan_rules.specs.declared.stop.StopState.TheVariants.{Never}
use Rattle.plan_rules.specs.Images.{value_data, error_data, stopped_data, then_of, upon_error_of, upon_stopped_of, as_optional, as_error}
use Rattle.plan_rules.specs.Bulks.{bulk_of}
use Rattle.plan_rules.specs.Allowed.{Meaning, Asks, ImageOf, body_at, PickedBy, LetOf, Lets, IsFailure, AllOf, Joined2, Case, Allowed}
use Rattle.plan_rules.specs.Settle.{shown_of, picked_of, let_of, lets_of, all_of, ahead_of, settle_case, settle_of}
use Rattle.plan_rules.specs.Calm.{IsValue, CalmBody, CalmLet, CalmFirst, CalmCase, Calm}
use Rattle.plan_rules.specs.Children.{named_by}
use Rattle.plan_laws.specs.Order.{IsOrdered}
use Rattle.plan_laws.specs.Laws.{CalmIsSettled}
use Rattle.plan_laws.proofs.Tables.{node-past}
use Rattle.plan_laws.proofs.Children.{HasZero, below-zero, head-of, second-of, body-of}
use Rattle.plan_laws.proofs.Steps.{absent, allowed-by-case}
use Rattle.plan_laws.proofs.Readings.{Calmness, settled-by-case, calm-by-case}
use Rattle.plan_laws.proofs.Joining.{all-values}
use Rattle.plan_laws.proofs.Evaluation.{settled-allowed}

-- nothing but d is allowed
abbrev pub Only : (Completion → Type 0) → Completion → Type 0
Only Child d = (c : Completion) → Child c → c ≡ d

shown-only : (query : Query) (number : ℕ) → Only (Asks query number Never) (shown_of query number false)
shown-only Record number c h = h
shown-only Stop number c h = h

image-only : (image : Completion → Completion) (Child : Completion → Type 0) (d : Completion) →
    Only Child d → Only (ImageOf image Child) (image d)
image-only image Child d only c h = h.2 ∙ ap image (only h.0 h.1)

-- the completions of bodies, by their arguments
abbrev pub Settling : Type 0
Settling = ℕ → List Datum → Completion

-- the bodies that are picked, under any values, where they are calm
abbrev pub BodiesOnly : List ℕ → (ℕ → List Datum → Completion → Type 0) → Settling → Calmness → Type 0
BodiesOnly bodies Body body BodyCalm =
    (k : ℤ) (b : List Datum) → BodyCalm (body_at bodies k) b →
    Only (Body (body_at bodies k) b) (body (body_at bodies k) b)

picked-only : (answer : Result (List Datum) (List ℕ)) (bodies : List ℕ) (Body : ℕ → Completion → Type 0)
    (body : ℕ → Completion) (BodyCalm : ℕ → Type 0) →
    ((k : ℤ) → BodyCalm (body_at bodies k) → Only (Body (body_at bodies k)) (body (body_at bodies k))) →
    CalmBody answer bodies BodyCalm → Only (PickedBy answer bodies Body) (picked_of answer bodies body)
picked-only (Ok (Int k ∷ [])) bodies Body body BodyCalm only calm c h = only k calm c h
picked-only answer bodies Body body BodyCalm only calm c h = h

let-only : (values : Option (List Datum)) (pick : Job) (bodies : List ℕ)
    (Body : ℕ → List Datum → Completion → Type 0) (body : Settling) (BodyCalm : Calmness) →
    BodiesOnly bodies Body body BodyCalm → CalmLet values pick bodies BodyCalm → (d : Completion) →
    Only (LetOf values pick bodies Body d) (let_of values pick bodies body d)
let-only None pick bodies Body body BodyCalm only calm d c h = h
let-only (Some values) pick bodies Body body BodyCalm only calm d c h =
    picked-only (apply_of pick values) bodies (λ n. Body n values) (λ n. body n values)
    (λ n. BodyCalm n values) (λ k. only k values) calm c h

failure-no_value : (c : Completion) → IsFailure c → IsValue c → ⊥
failure-no_value (Value values) failure value = failure
failure-no_value (Error e) failure value = value
failure-no_value Stopped failure value = value
failure-no_value NoMemory failure value = value

all-only : (Child : StopState → ℕ → Completion → Type 0) (f : ℕ → Completion) (xs : List ℕ) →
    ((i : ℕ) → i < length xs → Only (Child Never i) (f (slice_index xs i))) →
    ((i : ℕ) → i < length xs → IsValue (f (slice_index xs i))) →
    Only (AllOf Child Never (length xs)) (all_of (map f xs))
all-only Child f xs only value c h = elim h [
  | inl x ↦ x.2 ∙ sym (all-values f xs x.0 (λ i within. sym (only i within (Value (x.0 i)) (x.1 i within))))
  | inr x ↦ absurd (failure-no_value (f (slice_index xs x.0))
      (subst IsFailure (only x.0 x.2 (x.1 x.0) x.3) x.4) (value x.0 x.2))
]

ahead-second : (x y : Completion) → IsFailure y → ahead_of x y ≡ y
ahead-second (Value front) (Value values) failure = absurd failure
ahead-second x (Value values) failure = absurd failure
ahead-second x y failure = refl

ahead-first : (x : Completion) (values : List Datum) → IsFailure x → ahead_of x (Value values) ≡ x
ahead-first (Value front) values failure = absurd failure
ahead-first x values failure = refl

ahead-only : (First Second : Completion → Type 0) (x y : Completion) (FirstCalm : Type 0) →
    (FirstCalm → Only First x) → Only Second y → CalmFirst y FirstCalm →
    Only (Joined2 First Second) (ahead_of x y)
ahead-only First Second x y FirstCalm first second calm c h = elim h [
  | inl u ↦ let same = second c u.0 in same ∙ sym (ahead-second x y (subst IsFailure same u.1))
  | inr u ↦
      let same = second (Value u.0) u.1 in
      let only = first (subst (λ d. CalmFirst d FirstCalm) (sym same) calm) in
      let front : c ≡ ahead_of x (Value u.0) = elim (u.2) [
        | inl v ↦ let here = only c v.0 in here ∙ sym (ahead-first x u.0 (subst IsFailure here v.1))
        | inr v ↦ v.2 ∙ ap (λ d. ahead_of d (Value u.0)) (only (Value v.0) v.1)
      ] in
      front ∙ ap (ahead_of x) same
]

module _ (nodes : List Node) (r : ℕ) (These : ℕ → Type 0) (zeroth : HasZero These) (Below : ℕ → Meaning)
    (BelowCalm : Calmness)
    (only : (k : ℕ) → These k → (a : List Datum) → BelowCalm k a →
    Only (Below k a Never) (settle_of nodes k a r false)) where
  lets-only : (channel : Completion → Option (List Datum)) (x : ℕ) (pick : Job) (xs : List ℕ) →
      All These (x ∷ xs) → (a : List Datum) → BelowCalm x a →
      CalmLet (channel (settle_of nodes x a r false)) pick xs BelowCalm →
      Only (Lets channel pick xs (λ n values d. Below n values Never d) (Below x a Never))
      (lets_of channel pick xs (λ k b. settle_of nodes k b r false) (settle_of nodes x a r false))
  lets-only channel x pick xs all a calm body_calm c h =
      let body : ℕ → List Datum → Completion → Type 0 = λ n values d. Below n values Never d in
      let-only (channel (settle_of nodes x a r false)) pick xs body (λ k b. settle_of nodes k b r false) BelowCalm
      (λ k. only (body_at xs k) (body-of These zeroth x xs all k)) body_calm (settle_of nodes x a r false) c
      (subst (λ d. LetOf (channel d) pick xs body d c) (only x (head-of These x xs all) a calm h.0 h.1) h.2)

  case-only : (node : Node) → All These (named_by node) → (a : List Datum) →
      CalmCase nodes r node BelowCalm a →
      Only (Case nodes r node Below a Never)
      (settle_case nodes r node (λ k b s. settle_of nodes k b r s) a false)
  case-only Input all a calm c h = h
  case-only (ReadEnv query) all a calm c h = shown-only query r c h
  case-only (Then x job) all a calm c h =
      image-only (then_of job) (Below x a Never) (settle_of nodes x a r false)
      (only x (head-of These x [] all) a calm) c h
  case-only (UponError x job) all a calm c h =
      image-only (upon_error_of job) (Below x a Never) (settle_of nodes x a r false)
      (only x (head-of These x [] all) a calm) c h
  case-only (UponStopped x job) all a calm c h =
      image-only (upon_stopped_of job) (Below x a Never) (settle_of nodes x a r false)
      (only x (head-of These x [] all) a calm) c h
  case-only (LetValue x pick xs) all a calm c h = lets-only value_data x pick xs all a calm.0 calm.1 c h
  case-only (LetError x pick xs) all a calm c h = lets-only error_data x pick xs all a calm.0 calm.1 c h
  case-only (LetStopped x pick xs) all a calm c h = lets-only stopped_data x pick xs all a calm.0 calm.1 c h
  case-only (StartsOn on x) all a calm c h = only x (head-of These x [] all) a calm c h
  case-only (ContinuesOn x on) all a calm c h = only x (head-of These x [] all) a calm c h
  case-only (StoppedAsOptional x of) all a calm c h =
      image-only as_optional (Below x a Never) (settle_of nodes x a r false)
      (only x (head-of These x [] all) a calm) c h
  case-only (StoppedAsError x e) all a calm c h =
      image-only (as_error e) (Below x a Never) (settle_of nodes x a r false)
      (only x (head-of These x [] all) a calm) c h
  case-only (Bulk x job) all a calm c h =
      image-only (bulk_of job) (Below x a Never) (settle_of nodes x a r false)
      (only x (head-of These x [] all) a calm) c h
  case-only (WhenAll xs) all a calm c h =
      all-only (λ s i d. Below (slice_index xs i) a s d) (λ n. settle_of nodes n a r false) xs
      (λ i within. only (slice_index xs i) (all i 0 within) a (calm i within).0)
      (λ i within. (calm i within).1) c h
  case-only (Unstoppable x) all a calm c h = only x (head-of These x [] all) a calm c h
  case-only (Ahead x y) all a calm c h =
      ahead-only (Below x a Never) (Below y a Never) (settle_of nodes x a r false) (settle_of nodes y a r false)
      (BelowCalm x a) (only x (head-of These x (y ∷ []) all) a)
      (only y (second-of These x y [] all) a calm.0) calm.1 c h
  case-only _ all a calm c h = h

-- by the nodes before it, up to the number m
calm-only : (nodes : List Node) → IsOrdered nodes → (r m n : ℕ) → n < m → (a : List Datum) →
    Calm nodes n a r → Only (Allowed nodes n a r Never) (settle_of nodes n a r false)
calm-only nodes ordered r zero n before a calm c h = absurd (omega arith)
calm-only nodes ordered r (suc m) n before a calm c h = elim ((slice_get_cases nodes n).1) [
  | inl x ↦
      case-only nodes r (λ k. k < n) (below-zero n) (λ k b s d. Allowed nodes k b r s d)
      (λ k b. Calm nodes k b r) (λ k smaller. calm-only nodes ordered r m k (omega arith))
      x.0 (ordered n x.0 x.2) a ((calm-by-case nodes ordered n x.0 x.2 a r).0 calm) c
      ((allowed-by-case nodes ordered n x.0 x.2 a r Never c).0 h)
      ∙ sym (settled-by-case nodes ordered n x.0 x.2 a r false)
  | inr x ↦
      subst (λ (M : Meaning). M a Never c) (node-past absent (Case nodes r) nodes n x.0) h
      ∙ sym (ap (λ (f : List Datum → Bool → Completion). f a false)
      (node-past (λ _ _. Stopped) (settle_case nodes r) nodes n x.0))
]

pub calm-settled : CalmIsSettled
calm-settled nodes ordered n a r calm c = (
  calm-only nodes ordered r (suc n) n (omega arith) a calm c,
  λ e. subst (Allowed nodes n a r Never) (sym e) (settled-allowed nodes n a r false),
)
