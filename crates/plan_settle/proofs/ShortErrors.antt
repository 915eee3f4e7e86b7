-- What a small plan settles to has no long error, where the plan says none.
use Rattle.std.specs.Prelude.{ℤ, All, map, Option, Some, None, Result, Ok, Err, IsOk, OnErr, slice_get}
use Rattle.std.proofs.Common.{◌≡◌, ℕ, zero, suc, ◌<◌, ◌≤◌, Bool, true, false, List, [], ◌∷◌, length, refl, sym, ap, subst, inl, inr, arith}
use Rattle.std.proofs.lemmas.Option.{slice_get_cases}
use Rattle.std.specs.declared.alloc.AllocError.{AllocError}
use Rattle.exec_value.specs.declared.limits.TheConstants.{INLINE_BYTES}
use Rattle.exec_value.specs.declared.data.Datum.{Datum}
use Rattle.exec_value.specs.declared.data.Datum.TheVariants.{Int}
use Rattle.exec_value.specs.declared.outcome.Completion.{Completion}
use Rattle.exec_value.specs.declared.outcome.Completion.TheVariants.{Value, Error, Stopped}
use Rattle.exec_job.specs.Apply.{apply_of, ending}
use Rattle.exec_job.specs.declared.job.Job.{Job}
use Rattle.plan_rules.specs.declared.node.Node.{Node}
use Rattle.plan_rules.specs.declared.node.Node.TheVariants.{JustError, Schedule, Delay, ReadEnv, Then, UponError, UponStopped, LetValue, LetError, LetStopped, StartsOn, ContinuesOn, StoppedAsOptional, StoppedAsError, Bulk, WhenAll, Part, Unstoppable, Ahead}
use Rattle.plan_rules.specs.declared.node.Query.{Query}
use Rattle.plan_rules.specs.declared.node.Query.TheVariants.{Stop, Record}
use Rattle.plan_rules.specs.Images.{value_data, error_data, stopped_data, applied, as_optional, as_error}
use Rattle.plan_rules.specs.Children.{named_by}
use Rattle.plan_rules.specs.Allowed.{body_at}
use Rattle.plan_rules.specs.Settle.{unless_asked, shown_of, picked_of, let_of, lets_of, and_then, all_of, Settled, settle_case, settle_of}
use Rattle.plan_laws.proofs.Tables.{node-past}
use Rattle.plan_laws.proofs.Children.{HasZero, below-zero, head-of, tail-of, body-of}
use Rattle.plan_laws.proofs.Readings.{settled-by-case}
use Rattle.plan_shape.specs.Blueprint.{Blueprint, IsPlan}
use Rattle.plan_kinds.specs.Small.{IsSmallNode, IsSmall, HasShortNames, own_name}
use Rattle.plan_settle.specs.Runs.{SettlesLong}
use Rattle.plan_kinds.proofs.Plans.{plans-built}
use Rattle.plan_kinds.proofs.ShortNames.{ShortAnswer, IsShortJob, job-short}

-- an error's name is short
abbrev pub IsShort : Completion → Type 0
IsShort (Error name) = length name ≤ INLINE_BYTES
IsShort c = Unit {0}

ending-short : (answer : Result (List Datum) (List ℕ)) → ShortAnswer answer → IsShort (ending answer)
ending-short (Ok values) short = tt
ending-short (Err name) short = short

applied-short : (job : Job) → IsShortJob job → (values : Option (List Datum)) (c : Completion) → IsShort c →
    IsShort (applied job values c)
applied-short job named None c short = short
applied-short job named (Some values) c short =
    ending-short (apply_of job values) (job-short job named values)

optional-short : (c : Completion) → IsShort c → IsShort (as_optional c)
optional-short (Value (x ∷ [])) short = tt
optional-short Stopped short = tt
optional-short c short = short

error-short : (name : List ℕ) (c : Completion) → length name ≤ INLINE_BYTES → IsShort c →
    IsShort (as_error name c)
error-short name Stopped own short = own
error-short name c own short = short

unless-short : (asked : Bool) (c : Completion) → IsShort c → IsShort (unless_asked asked c)
unless-short true c short = tt
unless-short false c short = short

shown-short : (query : Query) (number : ℕ) (asked : Bool) → IsShort (shown_of query number asked)
shown-short Stop number true = tt
shown-short Stop number false = tt
shown-short Record number asked = tt

picked-short : (answer : Result (List Datum) (List ℕ)) → ShortAnswer answer → (bodies : List ℕ)
    (body : ℕ → Completion) → ((k : ℤ) → IsShort (body (body_at bodies k))) →
    IsShort (picked_of answer bodies body)
picked-short (Ok (Int k ∷ [])) short bodies body each = each k
picked-short answer short bodies body each = ending-short answer short

let-short : (values : Option (List Datum)) (pick : Job) → IsShortJob pick → (bodies : List ℕ)
    (body : ℕ → List Datum → Completion) → ((k : ℤ) (b : List Datum) → IsShort (body (body_at bodies k) b)) →
    (d : Completion) → IsShort d → IsShort (let_of values pick bodies body d)
let-short None pick named bodies body each d short = short
let-short (Some values) pick named bodies body each d short =
    picked-short (apply_of pick values) (job-short pick named values) bodies (λ n. body n values)
    (λ k. each k values)

then-short : (c d : Completion) → IsShort c → IsShort d → IsShort (and_then c d)
then-short (Value front) (Value values) one other = tt
then-short (Value front) d one other = other
then-short (Error e) d one other = one
then-short c (Error e) one other = other
then-short c d one other = tt

all-short : (These : ℕ → Type 0) (f : ℕ → Completion) → ((k : ℕ) → These k → IsShort (f k)) →
    (xs : List ℕ) → All These xs → IsShort (all_of (map f xs))
all-short These f each [] all = tt
all-short These f each (x ∷ xs) all =
    then-short (f x) (all_of (map f xs)) (each x (head-of These x xs all))
    (all-short These f each xs (tail-of These x xs all))

module _ (These : ℕ → Type 0) (zeroth : HasZero These) (below : Settled)
    (each : (k : ℕ) → These k → (a : List Datum) (asked : Bool) → IsShort (below k a asked)) where
  lets-short : (channel : Completion → Option (List Datum)) (x : ℕ) (pick : Job) → IsShortJob pick →
      (xs : List ℕ) → All These (x ∷ xs) → (a : List Datum) (asked : Bool) →
      IsShort (lets_of channel pick xs (λ n b. below n b asked) (below x a asked))
  lets-short channel x pick named xs all a asked =
      let-short (channel (below x a asked)) pick named xs (λ n b. below n b asked)
      (λ k b. each (body_at xs k) (body-of These zeroth x xs all k) b asked) (below x a asked)
      (each x (head-of These x xs all) a asked)

  case-short : (nodes : List Node) (r : ℕ) (node : Node) → IsSmallNode node → length (own_name node) ≤ INLINE_BYTES →
      All These (named_by node) → (a : List Datum) (asked : Bool) →
      IsShort (settle_case nodes r node below a asked)
  case-short nodes r (JustError name) small named all a asked = named
  case-short nodes r (Schedule on) small named all a asked = unless-short asked (Value []) tt
  case-short nodes r (Delay turns) small named all a asked = unless-short asked (Value []) tt
  case-short nodes r (ReadEnv query) small named all a asked = shown-short query r asked
  case-short nodes r (Then x job) small named all a asked =
      let d = below x a asked in
      applied-short job named (value_data d) d (each x (head-of These x [] all) a asked)
  case-short nodes r (UponError x job) small named all a asked =
      let d = below x a asked in
      applied-short job named (error_data d) d (each x (head-of These x [] all) a asked)
  case-short nodes r (UponStopped x job) small named all a asked =
      let d = below x a asked in
      applied-short job named (stopped_data d) d (each x (head-of These x [] all) a asked)
  case-short nodes r (LetValue x pick xs) small named all a asked =
      lets-short value_data x pick named xs all a asked
  case-short nodes r (LetError x pick xs) small named all a asked =
      lets-short error_data x pick named xs all a asked
  case-short nodes r (LetStopped x pick xs) small named all a asked =
      lets-short stopped_data x pick named xs all a asked
  case-short nodes r (StartsOn on x) small named all a asked =
      unless-short asked (below x a asked) (each x (head-of These x [] all) a asked)
  case-short nodes r (ContinuesOn x on) small named all a asked =
      unless-short asked (below x a asked) (each x (head-of These x [] all) a asked)
  case-short nodes r (StoppedAsOptional x of) small named all a asked =
      optional-short (below x a asked) (each x (head-of These x [] all) a asked)
  case-short nodes r (StoppedAsError x name) small named all a asked =
      error-short name (below x a asked) named (each x (head-of These x [] all) a asked)
  case-short nodes r (WhenAll xs) small named all a asked =
      unless-short asked (all_of (map (λ n. below n a false) xs))
      (all-short These (λ n. below n a false) (λ k this. each k this a false) xs all)
  case-short nodes r (Unstoppable x) small named all a asked = each x (head-of These x [] all) a false
  case-short nodes r (Bulk x job) small named all a asked = absurd small
  case-short nodes r (Part bulk part) small named all a asked = absurd small
  case-short nodes r (Ahead x y) small named all a asked = absurd small
  case-short nodes r _ small named all a asked = tt

short-below : (plan : Blueprint) → IsPlan plan → IsSmall plan → HasShortNames plan → (m n : ℕ) → n < m → (a : List Datum) (r : ℕ)
    (asked : Bool) → IsShort (settle_of plan.nodes n a r asked)
short-below plan is small short zero n before a r asked = absurd (omega arith)
short-below plan is small short (suc m) n before a r asked = elim ((slice_get_cases plan.nodes n).1) [
  | inl x ↦
      let node : Node = x.0 in
      let at : slice_get plan.nodes n ≡ Some node = x.2 in
      let ordered = (plans-built plan is).ordered in
      subst IsShort (sym (settled-by-case plan.nodes ordered n node at a r asked))
      (case-short (λ k. k < n) (below-zero n) (λ k b s. settle_of plan.nodes k b r s)
      (λ k smaller b s. short-below plan is small short m k (omega arith) b r s)
      plan.nodes r node (small.nodes_are n node at)
      (short n node at) (ordered n node at) a asked)
  | inr x ↦
      let past : settle_of plan.nodes n a r asked ≡ Stopped =
      ap (λ (f : List Datum → Bool → Completion). f a asked)
      (node-past (λ _ _. Stopped) (settle_case plan.nodes r) plan.nodes n x.0) in
      subst IsShort (sym past) tt
]

settled-short : (plan : Blueprint) → IsPlan plan → IsSmall plan → HasShortNames plan → (n : ℕ)
    (a : List Datum) (r : ℕ) (asked : Bool) → IsShort (settle_of plan.nodes n a r asked)
settled-short plan is small short n = short-below plan is small short (suc n) n (omega arith)

-- such a plan never wants memory
pub no-memory_wanted : {A : Type 0} (plan : Blueprint) → IsPlan plan → IsSmall plan → HasShortNames plan →
    (r : ℕ) (result : Result A AllocError) → OnErr result (SettlesLong plan r) → IsOk result
no-memory_wanted plan is small short r (Ok made) long = refl
no-memory_wanted plan is small short r (Err e) long =
    let fits : length long.name ≤ INLINE_BYTES =
    subst IsShort long.settles (settled-short plan is small short long.node long.args r long.asked) in
    absurd (omega (arith, fits, long.long))
