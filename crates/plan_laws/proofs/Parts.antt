-- What each way of making a completion keeps.
use Rattle.std.specs.Prelude.{ℤ, Option, Some, None, Result, Ok}
use Rattle.std.proofs.Common.{ℕ, ◌<◌, Bool, true, false, List, [], ◌∷◌, inl, inr}
use Rattle.exec_value.specs.declared.data.Datum.{Datum}
use Rattle.exec_value.specs.declared.data.Datum.TheVariants.{Int}
use Rattle.exec_value.specs.declared.outcome.Completion.{Completion}
use Rattle.exec_value.specs.declared.outcome.Completion.TheVariants.{Value}
use Rattle.exec_job.specs.declared.job.Job.{Job}
use Rattle.exec_job.specs.Apply.{apply_of}
use Rattle.plan_rules.specs.declared.node.Query.{Query}
use Rattle.plan_rules.specs.declared.node.Query.TheVariants.{Stop, Record}
use Rattle.plan_rules.specs.declared.stop.StopState.{StopState}
use Rattle.plan_rules.specs.declared.stop.StopState.TheVariants.{Never, May, Stands}
use Rattle.plan_rules.specs.Allowed.{OrStopped, ImageOf, Asks, body_at, PickedBy, LetOf, Lets, AllOf, Joined2}

-- what is allowed by the first is allowed by the second
abbrev pub Goes : (Completion → Type 0) → (Completion → Type 0) → Type 0
Goes First Second = (c : Completion) → First c → Second c

-- the same stop state, or that a request may come
abbrev pub rise : Bool → StopState → StopState
rise true q = May
rise false q = q

pub stopped-goes : (up : Bool) (q : StopState) (First Second : Completion → Type 0) → Goes First Second →
    Goes (OrStopped q First) (OrStopped (rise up q) Second)
stopped-goes true Never First Second goes c h = inl (goes c h)
stopped-goes true May First Second goes c h = elim h [ inl x ↦ inl (goes c x) | inr e ↦ inr e ]
stopped-goes true Stands First Second goes c h = inr h
stopped-goes false Never First Second goes c h = goes c h
stopped-goes false May First Second goes c h = elim h [ inl x ↦ inl (goes c x) | inr e ↦ inr e ]
stopped-goes false Stands First Second goes c h = h

pub image-goes : (image : Completion → Completion) (First Second : Completion → Type 0) →
    Goes First Second → Goes (ImageOf image First) (ImageOf image Second)
image-goes image First Second goes c h = (h.0, goes h.0 h.1, h.2)

pub asks-goes : (up : Bool) (query : Query) (number : ℕ) (q : StopState) →
    Goes (Asks query number q) (Asks query number (rise up q))
asks-goes up Record number q c h = h
asks-goes true Stop number Never c h = inl h
asks-goes true Stop number May c h = h
asks-goes true Stop number Stands c h = inr h
asks-goes false Stop number q c h = h

-- the bodies that are picked, under any values
abbrev pub BodiesGo : List ℕ → (ℕ → List Datum → Completion → Type 0) →
    (ℕ → List Datum → Completion → Type 0) → Type 0
BodiesGo bodies First Second =
    (k : ℤ) (values : List Datum) → Goes (First (body_at bodies k) values) (Second (body_at bodies k) values)

picked-goes : (answer : Result (List Datum) (List ℕ)) (bodies : List ℕ)
    (First Second : ℕ → Completion → Type 0) →
    ((k : ℤ) → Goes (First (body_at bodies k)) (Second (body_at bodies k))) →
    Goes (PickedBy answer bodies First) (PickedBy answer bodies Second)
picked-goes (Ok (Int k ∷ [])) bodies First Second goes c h = goes k c h
picked-goes answer bodies First Second goes c h = h

let-goes : (values : Option (List Datum)) (pick : Job) (bodies : List ℕ)
    (First Second : ℕ → List Datum → Completion → Type 0) → BodiesGo bodies First Second →
    (d : Completion) → Goes (LetOf values pick bodies First d) (LetOf values pick bodies Second d)
let-goes None pick bodies First Second goes d c h = h
let-goes (Some values) pick bodies First Second goes d c h =
    picked-goes (apply_of pick values) bodies (λ n. First n values) (λ n. Second n values)
    (λ k. goes k values) c h

pub lets-go : (channel : Completion → Option (List Datum)) (pick : Job) (bodies : List ℕ)
    (First Second : ℕ → List Datum → Completion → Type 0) → BodiesGo bodies First Second →
    (Child Other : Completion → Type 0) → Goes Child Other →
    Goes (Lets channel pick bodies First Child) (Lets channel pick bodies Second Other)
lets-go channel pick bodies First Second goes Child Other child c h =
    (h.0, child h.0 h.1, let-goes (channel h.0) pick bodies First Second goes h.0 c h.2)

-- the children up to this count, under the stop state and where a request may come
pub all-goes : (up : Bool) (q : StopState) (count : ℕ) (First Second : StopState → ℕ → Completion → Type 0) →
    ((i : ℕ) → i < count → Goes (First q i) (Second (rise up q) i)) →
    ((i : ℕ) → i < count → Goes (First May i) (Second May i)) →
    Goes (AllOf First q count) (AllOf Second (rise up q) count)
all-goes up q count First Second own others c h = elim h [
  | inl x ↦ inl (x.0, (λ i within. own i within (Value (x.0 i)) (x.1 i within)), x.2)
  | inr x ↦ inr (
    x.0,
    x.1,
    x.2,
    own x.0 x.2 (x.1 x.0) x.3,
    x.4,
    (λ i within other. others i within (x.1 i) (x.5 i within other)),
    x.6,
  )
]

pub joined-goes : (First Front Second Back : Completion → Type 0) → Goes First Front → Goes Second Back →
    Goes (Joined2 First Second) (Joined2 Front Back)
joined-goes First Front Second Back first second c h = elim h [
  | inl x ↦ inl (second c x.0, x.1)
  | inr x ↦ inr (
    x.0,
    second (Value x.0) x.1,
    elim (x.2) [
      | inl y ↦ inl (first c y.0, y.1)
      | inr y ↦ inr (y.0, first (Value y.0) y.1, y.2)
    ],
  )
]
