-- Want of memory is never allowed.
use Rattle.std.specs.Prelude.{ℤ, pos, Option, Some, None, Result, Ok, Err, slice_index}
use Rattle.std.proofs.Common.{◌≡◌, ℕ, List, [], ◌∷◌, length, sym, subst, inl, inr}
use Rattle.exec_value.specs.declared.data.Datum.{Datum}
use Rattle.exec_value.specs.declared.data.Datum.TheVariants.{Int, Row}
use Rattle.exec_value.specs.declared.outcome.Completion.{Completion}
use Rattle.exec_value.specs.declared.outcome.Completion.TheVariants.{Value, Error, Stopped, NoMemory}
use Rattle.exec_job.specs.declared.job.Job.{Job}
use Rattle.exec_job.specs.Apply.{apply_of, ending}
use Rattle.plan_rules.specs.declared.node.Node.{Node}
use Rattle.plan_rules.specs.declared.node.Node.TheVariants.{Input, Just, JustError, JustStopped, Schedule, Delay, ReadEnv, Then, UponError, UponStopped, LetValue, LetError, LetStopped, StartsOn, ContinuesOn, StoppedAsOptional, StoppedAsError, Bulk, WhenAll, Part, Unstoppable, Ahead}
use Rattle.plan_rules.specs.declared.node.Query.{Query}
use Rattle.plan_rules.specs.declared.node.Query.TheVariants.{Stop, Record}
use Rattle.plan_rules.specs.declared.stop.StopState.{StopState}
use Rattle.plan_rules.specs.declared.stop.StopState.TheVariants.{Never, May, Stands}
use Rattle.plan_rules.specs.Images.{value_data, error_data, stopped_data, applied, then_of, upon_error_of, upon_stopped_of, as_optional, as_error}
use Rattle.plan_rules.specs.Bulks.{row_ending, each_of, bulk_of, job_of_bulk, part_ending}
use Rattle.plan_rules.specs.Allowed.{Meaning, OrStopped, ImageOf, Asks, body_at, PickedBy, LetOf, Lets, FailsWith, AllOf, Ends, Joined2, Case}
use Rattle.plan_laws.specs.Laws.{AllowedHasMemory}
use Rattle.plan_laws.proofs.Tables.{nodes-hold}
use Rattle.plan_laws.proofs.Steps.{absent, first_allowed}

-- not want of memory
abbrev pub HasMemory : Completion → Type 0
HasMemory NoMemory = ⊥
HasMemory _ = Unit {0}

-- what is equal to a completion that has memory
is : (d c : Completion) → HasMemory d → c ≡ d → HasMemory c
is d c memory e = subst HasMemory (sym e) memory

ending-memory : (answer : Result (List Datum) (List ℕ)) → HasMemory (ending answer)
ending-memory (Ok values) = tt
ending-memory (Err name) = tt

applied-memory : (job : Job) (values : Option (List Datum)) (c : Completion) → HasMemory c →
    HasMemory (applied job values c)
applied-memory job None c memory = memory
applied-memory job (Some values) c memory = ending-memory (apply_of job values)

optional-memory : (c : Completion) → HasMemory c → HasMemory (as_optional c)
optional-memory (Value (x ∷ [])) memory = tt
optional-memory Stopped memory = tt
optional-memory c memory = memory

error-memory : (name : List ℕ) (c : Completion) → HasMemory c → HasMemory (as_error name c)
error-memory name Stopped memory = tt
error-memory name c memory = memory

row-memory : (answer : Result (List ℤ) (List ℕ)) → HasMemory (row_ending answer)
row-memory (Ok ys) = tt
row-memory (Err name) = tt

bulk-memory : (job : Job) (c : Completion) → HasMemory c → HasMemory (bulk_of job c)
bulk-memory job (Value (Row xs ∷ [])) memory = row-memory (each_of job 0 xs)
bulk-memory job c memory = memory

part-memory : (job : Option Job) (values : List Datum) → HasMemory (part_ending job values)
part-memory None values = tt
part-memory (Some job) (Row xs ∷ Int (pos first) ∷ []) = row-memory (each_of job first xs)
part-memory (Some job) values = tt

asks-memory : (query : Query) (number : ℕ) (q : StopState) (c : Completion) → Asks query number q c →
    HasMemory c
asks-memory Record number q c h = is _ c tt h
asks-memory Stop number Never c h = is _ c tt h
asks-memory Stop number May c h = elim h [ inl e ↦ is _ c tt e | inr e ↦ is _ c tt e ]
asks-memory Stop number Stands c h = is _ c tt h

-- all that is allowed here has memory
abbrev pub AllHave : (Completion → Type 0) → Type 0
AllHave Child = (c : Completion) → Child c → HasMemory c

stopped-memory : (q : StopState) (Child : Completion → Type 0) → AllHave Child → AllHave (OrStopped q Child)
stopped-memory Never Child all c h = all c h
stopped-memory May Child all c h = elim h [ inl x ↦ all c x | inr e ↦ is _ c tt e ]
stopped-memory Stands Child all c h = is _ c tt h

image-memory : (image : Completion → Completion) → ((d : Completion) → HasMemory d → HasMemory (image d)) →
    (Child : Completion → Type 0) → AllHave Child → AllHave (ImageOf image Child)
image-memory image keeps Child all c h = is (image h.0) c (keeps h.0 (all h.0 h.1)) h.2

picked-memory : (answer : Result (List Datum) (List ℕ)) (bodies : List ℕ) (Body : ℕ → Completion → Type 0) →
    ((n : ℕ) → AllHave (Body n)) → AllHave (PickedBy answer bodies Body)
picked-memory (Ok (Int k ∷ [])) bodies Body all c h = all (body_at bodies k) c h
picked-memory answer bodies Body all c h = is (ending answer) c (ending-memory answer) h

let-memory : (values : Option (List Datum)) (pick : Job) (bodies : List ℕ)
    (Body : ℕ → List Datum → Completion → Type 0) →
    ((n : ℕ) (values : List Datum) → AllHave (Body n values)) → (d : Completion) → HasMemory d →
    AllHave (LetOf values pick bodies Body d)
let-memory None pick bodies Body all d memory c h = is d c memory h
let-memory (Some values) pick bodies Body all d memory c h =
    picked-memory (apply_of pick values) bodies (λ n. Body n values) (λ n. all n values) c h

lets-memory : (channel : Completion → Option (List Datum)) (pick : Job) (bodies : List ℕ)
    (Body : ℕ → List Datum → Completion → Type 0) →
    ((n : ℕ) (values : List Datum) → AllHave (Body n values)) →
    (Child : Completion → Type 0) → AllHave Child → AllHave (Lets channel pick bodies Body Child)
lets-memory channel pick bodies Body all Child child c h =
    let-memory (channel h.0) pick bodies Body all h.0 (child h.0 h.1) c h.2

fails-memory : (d : Completion) (ends : Ends) (count : ℕ) → AllHave (FailsWith d ends count)
fails-memory (Error e) ends count c h = is _ c tt h
fails-memory Stopped ends count c h = elim h [ inl x ↦ is _ c tt x.4 | inr x ↦ is _ c tt x.1 ]
fails-memory (Value values) ends count c h = absurd h
fails-memory NoMemory ends count c h = absurd h

all-memory : (Child : StopState → ℕ → Completion → Type 0) (q : StopState) (count : ℕ) →
    AllHave (AllOf Child q count)
all-memory Child q count c h = elim h [
  | inl x ↦ is _ c tt x.2
  | inr x ↦ fails-memory (x.1 x.0) x.1 count c x.6
]

joined-memory : (First Second : Completion → Type 0) → AllHave First → AllHave Second →
    AllHave (Joined2 First Second)
joined-memory First Second first second c h = elim h [
  | inl x ↦ second c x.0
  | inr x ↦ elim (x.2) [ inl y ↦ first c y.0 | inr y ↦ is _ c tt y.2 ]
]

case-memory : (nodes : List Node) (r : ℕ) (Below : ℕ → Meaning) →
    ((k : ℕ) (a : List Datum) (q : StopState) → AllHave (Below k a q)) →
    (node : Node) (a : List Datum) (q : StopState) → AllHave (Case nodes r node Below a q)
case-memory nodes r Below all Input a q c h = is _ c tt h
case-memory nodes r Below all (Just values) a q c h = is _ c tt h
case-memory nodes r Below all (JustError e) a q c h = is _ c tt h
case-memory nodes r Below all JustStopped a q c h = is _ c tt h
case-memory nodes r Below all (Schedule on) a q c h = stopped-memory q _ (λ d e. is _ d tt e) c h
case-memory nodes r Below all (Delay turns) a q c h = stopped-memory q _ (λ d e. is _ d tt e) c h
case-memory nodes r Below all (ReadEnv query) a q c h = asks-memory query r q c h
case-memory nodes r Below all (Then x job) a q c h =
    image-memory (then_of job) (λ d. applied-memory job (value_data d) d) (Below x a q) (all x a q) c h
case-memory nodes r Below all (UponError x job) a q c h =
    image-memory (upon_error_of job) (λ d. applied-memory job (error_data d) d) (Below x a q) (all x a q) c h
case-memory nodes r Below all (UponStopped x job) a q c h =
    image-memory (upon_stopped_of job) (λ d. applied-memory job (stopped_data d) d) (Below x a q) (all x a q)
    c h
case-memory nodes r Below all (LetValue x pick xs) a q c h =
    lets-memory value_data pick xs (λ n values d. Below n values q d) (λ n values. all n values q)
    (Below x a q) (all x a q) c h
case-memory nodes r Below all (LetError x pick xs) a q c h =
    lets-memory error_data pick xs (λ n values d. Below n values q d) (λ n values. all n values q)
    (Below x a q) (all x a q) c h
case-memory nodes r Below all (LetStopped x pick xs) a q c h =
    lets-memory stopped_data pick xs (λ n values d. Below n values q d) (λ n values. all n values q)
    (Below x a q) (all x a q) c h
case-memory nodes r Below all (StartsOn on x) a q c h = stopped-memory q (Below x a q) (all x a q) c h
case-memory nodes r Below all (ContinuesOn x on) a q c h = stopped-memory q (Below x a q) (all x a q) c h
case-memory nodes r Below all (StoppedAsOptional x of) a q c h =
    image-memory as_optional optional-memory (Below x a q) (all x a q) c h
case-memory nodes r Below all (StoppedAsError x e) a q c h =
    image-memory (as_error e) (error-memory e) (Below x a q) (all x a q) c h
case-memory nodes r Below all (Bulk x job) a q c h =
    image-memory (bulk_of job) (bulk-memory job) (Below x a q) (all x a q) c h
case-memory nodes r Below all (WhenAll xs) a q c h =
    let child : StopState → ℕ → Completion → Type 0 = λ s i d. Below (slice_index xs i) a s d in
    stopped-memory q (AllOf child q (length xs)) (all-memory child q (length xs)) c h
case-memory nodes r Below all (Part bulk part) a q c h =
    is (part_ending (job_of_bulk nodes bulk) a) c (part-memory (job_of_bulk nodes bulk) a) h
case-memory nodes r Below all (Unstoppable x) a q c h = all x a Never c h
case-memory nodes r Below all (Ahead x y) a q c h =
    joined-memory (Below x a q) (Below y a q) (all x a q) (all y a q) c h

pub first-memory : (nodes : List Node) (r m n : ℕ) (a : List Datum) (q : StopState) →
    AllHave (first_allowed nodes r m n a q)
first-memory nodes r m n =
    nodes-hold (λ First Second. (a : List Datum) (q : StopState) → AllHave (First a q))
    absent (Case nodes r) absent (Case nodes r) nodes (λ a q c e. is _ c tt e)
    (λ m node before. case-memory nodes r (first_allowed nodes r m) before node) m n

pub allowed-memory : AllowedHasMemory
allowed-memory nodes n a r q h = first-memory nodes r (length nodes) n a q NoMemory h
