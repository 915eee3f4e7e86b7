-- Plain evaluation gives what is allowed: where no stop comes, and where one was asked before.
use Rattle.std.specs.Prelude.{Option, Some, None, Result, Ok, slice_index, map}
use Rattle.std.proofs.Common.{◌≡◌, ℕ, Bool, true, false, List, [], ◌∷◌, length, refl, sym, ◌∙◌, subst, inl, inr}
use Rattle.exec_value.specs.declared.data.Datum.{Datum}
use Rattle.exec_value.specs.declared.data.Datum.TheVariants.{Int}
use Rattle.exec_value.specs.declared.outcome.Completion.{Completion}
use Rattle.exec_value.specs.declared.outcome.Completion.TheVariants.{Value, Error, Stopped, NoMemory}
use Rattle.exec_job.specs.declared.job.Job.{Job}
use Rattle.exec_job.specs.Apply.{apply_of}
use Rattle.plan_rules.specs.declared.node.Node.{Node}
use Rattle.plan_rules.specs.declared.node.Node.TheVariants.{Input, Schedule, Delay, ReadEnv, Then, UponError, UponStopped, LetValue, LetError, LetStopped, StartsOn, ContinuesOn, StoppedAsOptional, StoppedAsError, Bulk, WhenAll, Unstoppable, Ahead}
use Rattle.plan_rules.specs.declared.node.Query.{Query}
use Rattle.plan_rules.specs.declared.node.Query.TheVariants.{Stop, Record}
use Rattle.plan_rules.specs.declared.stop.StopState.{StopState}
use Rattle.plan_rules.specs.declared.stop.StopState.TheVariants.{Never, May}
use Rattle.plan_rules.specs.Images.{value_data, error_data, stopped_data}
use Rattle.plan_rules.specs.Allowed.{Meaning, OrStopped, Asks, body_at, PickedBy, LetOf, Lets, IsFailure, FailsWith, AllOf, Joined2, Case}
use Rattle.plan_rules.specs.Settle.{stop_state, unless_asked, shown_of, picked_of, let_of, lets_of, all_of, ahead_of, Settled, settle_case}
use Rattle.plan_rules.specs.Calm.{IsValue}
use Rattle.plan_laws.specs.Laws.{SettledIsAllowed, SettledHasMemory}
use Rattle.plan_laws.proofs.Tables.{by_first, nodes-hold}
use Rattle.plan_laws.proofs.Steps.{absent, first_allowed}
use Rattle.plan_laws.proofs.Covers.{first-covers}
use Rattle.plan_laws.proofs.Memory.{HasMemory, first-memory, allowed-memory}
use Rattle.plan_laws.proofs.Joining.{all-values, Tells, all-tells}

-- what the first m nodes settle to
abbrev pub first_settled : List Node → ℕ → ℕ → Settled
first_settled nodes r m = by_first (λ _ _. Stopped) (settle_case nodes r) nodes m

unless-allowed : (Child : Completion → Type 0) (c : Completion) → Child c → (asked : Bool) →
    OrStopped (stop_state asked) Child (unless_asked asked c)
unless-allowed Child c allowed true = refl
unless-allowed Child c allowed false = allowed

shown-allowed : (query : Query) (number : ℕ) (asked : Bool) →
    Asks query number (stop_state asked) (shown_of query number asked)
shown-allowed Record number asked = refl
shown-allowed Stop number true = refl
shown-allowed Stop number false = refl

picked-allowed : (answer : Result (List Datum) (List ℕ)) (bodies : List ℕ) (Body : ℕ → Completion → Type 0)
    (body : ℕ → Completion) → ((n : ℕ) → Body n (body n)) →
    PickedBy answer bodies Body (picked_of answer bodies body)
picked-allowed (Ok (Int k ∷ [])) bodies Body body each = each (body_at bodies k)
picked-allowed answer bodies Body body each = refl

let-allowed : (values : Option (List Datum)) (pick : Job) (bodies : List ℕ)
    (Body : ℕ → List Datum → Completion → Type 0) (body : ℕ → List Datum → Completion) →
    ((n : ℕ) (b : List Datum) → Body n b (body n b)) → (d : Completion) →
    LetOf values pick bodies Body d (let_of values pick bodies body d)
let-allowed None pick bodies Body body each d = refl
let-allowed (Some values) pick bodies Body body each d =
    picked-allowed (apply_of pick values) bodies (λ n. Body n values) (λ n. body n values)
    (λ n. each n values)

-- the data of a value
data_of : Completion → List Datum
data_of (Value values) = values
data_of _ = []

value-is : (c : Completion) → IsValue c → c ≡ Value (data_of c)
unfolding data_of
value-is (Value values) value = refl
value-is (Error e) value = absurd value
value-is Stopped value = absurd value
value-is NoMemory value = absurd value

all-allowed : (Child : StopState → ℕ → Completion → Type 0) (f : ℕ → Completion) (xs : List ℕ) →
    ((i : ℕ) → Child Never i (f (slice_index xs i))) → ((i : ℕ) → Child May i (f (slice_index xs i))) →
    (c : Completion) → Tells c (λ i. f (slice_index xs i)) (length xs) → all_of (map f xs) ≡ c →
    AllOf Child Never (length xs) c
all-allowed Child f xs own others (Value values) told e =
    inl (
      (λ i. data_of (f (slice_index xs i))),
      (λ i within. subst (Child Never i) (value-is (f (slice_index xs i)) (told i within)) (own i)),
      sym e ∙ all-values f xs (λ i. data_of (f (slice_index xs i)))
          (λ i within. value-is (f (slice_index xs i)) (told i within)),
    )
all-allowed Child f xs own others (Error e) told same =
    inr (
      told.0,
      (λ i. f (slice_index xs i)),
      told.1,
      own told.0,
      subst IsFailure (sym told.2) tt,
      (λ i within other. others i),
      subst (λ d. FailsWith d (λ i. f (slice_index xs i)) (length xs) (Error e)) (sym told.2) refl,
    )
all-allowed Child f xs own others Stopped told same =
    inr (
      told.0.0,
      (λ i. f (slice_index xs i)),
      told.0.1,
      own told.0.0,
      subst IsFailure (sym told.0.2) tt,
      (λ i within other. others i),
      subst (λ d. FailsWith d (λ i. f (slice_index xs i)) (length xs) Stopped) (sym told.0.2)
          (inr (told.1, refl)),
    )
all-allowed Child f xs own others NoMemory told same = absurd told

ahead-allowed : (First Second : Completion → Type 0) (x y : Completion) → First x → Second y →
    HasMemory x → HasMemory y → Joined2 First Second (ahead_of x y)
ahead-allowed First Second (Value front) (Value values) first second mx my =
    inr (values, second, inr (front, first, refl))
ahead-allowed First Second (Error e) (Value values) first second mx my =
    inr (values, second, inl (first, tt))
ahead-allowed First Second Stopped (Value values) first second mx my =
    inr (values, second, inl (first, tt))
ahead-allowed First Second NoMemory y first second mx my = absurd mx
ahead-allowed First Second x (Error e) first second mx my = inl (second, tt)
ahead-allowed First Second x Stopped first second mx my = inl (second, tt)
ahead-allowed First Second x NoMemory first second mx my = absurd my

module _ (Below : ℕ → Meaning) (below : Settled)
    (allowed : (k : ℕ) (a : List Datum) (asked : Bool) → Below k a (stop_state asked) (below k a asked))
    (covered : (k : ℕ) (a : List Datum) → Below k a May (below k a false))
    (memory : (k : ℕ) (a : List Datum) (asked : Bool) → HasMemory (below k a asked)) where
  lets-allowed : (channel : Completion → Option (List Datum)) (x : ℕ) (pick : Job) (xs : List ℕ)
      (a : List Datum) (asked : Bool) →
      Lets channel pick xs (λ n values d. Below n values (stop_state asked) d)
      (Below x a (stop_state asked))
      (lets_of channel pick xs (λ n b. below n b asked) (below x a asked))
  lets-allowed channel x pick xs a asked = (
    below x a asked,
    allowed x a asked,
    let-allowed (channel (below x a asked)) pick xs (λ n values d. Below n values (stop_state asked) d)
        (λ n b. below n b asked) (λ n b. allowed n b asked) (below x a asked),
  )

  case-allowed : (nodes : List Node) (r : ℕ) (node : Node) (a : List Datum) (asked : Bool) →
      Case nodes r node Below a (stop_state asked) (settle_case nodes r node below a asked)
  case-allowed nodes r Input a asked = refl
  case-allowed nodes r (Schedule on) a asked =
      unless-allowed (λ d. d ≡ Value []) (Value []) refl asked
  case-allowed nodes r (Delay turns) a asked =
      unless-allowed (λ d. d ≡ Value []) (Value []) refl asked
  case-allowed nodes r (ReadEnv query) a asked = shown-allowed query r asked
  case-allowed nodes r (Then x job) a asked = (below x a asked, allowed x a asked, refl)
  case-allowed nodes r (UponError x job) a asked = (below x a asked, allowed x a asked, refl)
  case-allowed nodes r (UponStopped x job) a asked = (below x a asked, allowed x a asked, refl)
  case-allowed nodes r (LetValue x pick xs) a asked = lets-allowed value_data x pick xs a asked
  case-allowed nodes r (LetError x pick xs) a asked = lets-allowed error_data x pick xs a asked
  case-allowed nodes r (LetStopped x pick xs) a asked = lets-allowed stopped_data x pick xs a asked
  case-allowed nodes r (StartsOn on x) a asked =
      unless-allowed (Below x a (stop_state asked)) (below x a asked) (allowed x a asked) asked
  case-allowed nodes r (ContinuesOn x on) a asked =
      unless-allowed (Below x a (stop_state asked)) (below x a asked) (allowed x a asked) asked
  case-allowed nodes r (StoppedAsOptional x of) a asked = (below x a asked, allowed x a asked, refl)
  case-allowed nodes r (StoppedAsError x e) a asked = (below x a asked, allowed x a asked, refl)
  case-allowed nodes r (Bulk x job) a asked = (below x a asked, allowed x a asked, refl)
  case-allowed nodes r (WhenAll xs) a true = refl
  case-allowed nodes r (WhenAll xs) a false =
      all-allowed (λ s i d. Below (slice_index xs i) a s d) (λ n. below n a false) xs
      (λ i. allowed (slice_index xs i) a false) (λ i. covered (slice_index xs i) a)
      (all_of (map (λ n. below n a false) xs))
      (all-tells (λ n. below n a false) (λ n. memory n a false) xs) refl
  case-allowed nodes r (Unstoppable x) a asked = allowed x a false
  case-allowed nodes r (Ahead x y) a asked =
      ahead-allowed (Below x a (stop_state asked)) (Below y a (stop_state asked))
      (below x a asked) (below y a asked)
      (allowed x a asked) (allowed y a asked) (memory x a asked) (memory y a asked)
  case-allowed nodes r _ a asked = refl

first-settled : (nodes : List Node) (r m n : ℕ) (a : List Datum) (asked : Bool) →
    first_allowed nodes r m n a (stop_state asked) (first_settled nodes r m n a asked)
first-settled nodes r m n =
    nodes-hold (λ Next next. (a : List Datum) (asked : Bool) → Next a (stop_state asked) (next a asked))
    absent (Case nodes r) (λ _ _. Stopped) (settle_case nodes r) nodes (λ a asked. refl)
    (λ m node before.
    case-allowed (first_allowed nodes r m) (first_settled nodes r m) before
    (λ k a. first-covers nodes r m k a Never (first_settled nodes r m k a false) (before k a false))
    (λ k a s. first-memory nodes r m k a (stop_state s) (first_settled nodes r m k a s) (before k a s))
    nodes r node) m n

pub settled-allowed : SettledIsAllowed
settled-allowed nodes n a r asked = first-settled nodes r (length nodes) n a asked

pub settled-memory : SettledHasMemory
settled-memory nodes n a r asked e =
    allowed-memory nodes n a r (stop_state asked)
    (subst (first_allowed nodes r (length nodes) n a (stop_state asked)) e
    (settled-allowed nodes n a r asked))
