-- Which completions a node may have: under arguments, a record's number and a stop state. Want of
-- memory is none of them; where it may be answered, that is said beside.
use Rattle.std.specs.Prelude.{◌≡◌, ◌⊎◌, ℕ, zero, suc, ◌-◌, ◌<◌, min, ℤ, pos, negsuc, List, [], ◌∷◌, ◌++◌, length, slice_index, Option, Some, None, Result, Ok}
use Rattle.exec_value.specs.declared.data.Datum.{Datum}
use Rattle.exec_value.specs.declared.data.Datum.TheVariants.{Int}
use Rattle.exec_value.specs.declared.outcome.Completion.{Completion}
use Rattle.exec_value.specs.declared.outcome.Completion.TheVariants.{Value, Error, Stopped}
use Rattle.exec_job.specs.declared.job.Job.{Job}
use Rattle.exec_job.specs.Apply.{apply_of, ending}
use Rattle.plan_rules.specs.declared.node.Node.{Node}
use Rattle.plan_rules.specs.declared.node.Node.TheVariants.{Input, Just, JustError, JustStopped, Schedule, Delay, ReadEnv, Then, UponError, UponStopped, LetValue, LetError, LetStopped, StartsOn, ContinuesOn, StoppedAsOptional, StoppedAsError, Bulk, WhenAll, Part, Unstoppable, Ahead}
use Rattle.plan_rules.specs.declared.node.Query.{Query}
use Rattle.plan_rules.specs.declared.node.Query.TheVariants.{Stop, Record}
use Rattle.plan_rules.specs.declared.stop.StopState.{StopState}
use Rattle.plan_rules.specs.declared.stop.StopState.TheVariants.{Never, May, Stands}
use Rattle.plan_rules.specs.Tables.{by_node}
use Rattle.plan_rules.specs.Images.{value_data, error_data, stopped_data, then_of, upon_error_of, upon_stopped_of, as_optional, as_error}
use Rattle.plan_rules.specs.Bulks.{bulk_of, job_of_bulk, part_ending}

-- which completions a node may have, under arguments and a stop state
abbrev pub Meaning : Type 1
Meaning = List Datum → StopState → Completion → Type 0

-- under Never so; under May also stopped; under Stands stopped
abbrev pub OrStopped : StopState → (Completion → Type 0) → Completion → Type 0
OrStopped Never Child c = Child c
OrStopped May Child c = Child c ⊎ (c ≡ Stopped)
OrStopped Stands Child c = c ≡ Stopped

-- the image of a completion of the child
abbrev pub ImageOf : (Completion → Completion) → (Completion → Type 0) → Completion → Type 0
ImageOf image Child c = (d : Completion) × Child d × (c ≡ image d)

-- what the environment shows of the stop state: 0 for no request, 1 for one
abbrev pub Asks : Query → ℕ → StopState → Completion → Type 0
Asks Record number q c = c ≡ Value (Int (pos number) ∷ [])
Asks Stop number Never c = c ≡ Value (Int (pos 0) ∷ [])
Asks Stop number May c = (c ≡ Value (Int (pos 0) ∷ [])) ⊎ (c ≡ Value (Int (pos 1) ∷ []))
Asks Stop number Stands c = c ≡ Value (Int (pos 1) ∷ [])

-- the body that a picked number names: below 0 the first, and from the last on the last
abbrev pub body_at : List ℕ → ℤ → ℕ
body_at bodies (pos k) = slice_index bodies (min k (length bodies - 1))
body_at bodies (negsuc k) = slice_index bodies 0

-- the pick's number names a body, which runs; where the pick gives something else, that is it
abbrev pub PickedBy : Result (List Datum) (List ℕ) → List ℕ → (ℕ → Completion → Type 0) →
    Completion → Type 0
PickedBy (Ok (Int k ∷ [])) bodies Body c = Body (body_at bodies k) c
PickedBy answer bodies Body c = c ≡ ending answer

-- a child's completion on the let's channel runs the picked body, and others pass
abbrev pub LetOf : Option (List Datum) → Job → List ℕ → (ℕ → List Datum → Completion → Type 0) →
    Completion → Completion → Type 0
LetOf None pick bodies Body d c = c ≡ d
LetOf (Some values) pick bodies Body d c = PickedBy (apply_of pick values) bodies
    (λ n. Body n values) c

abbrev pub Lets : (Completion → Option (List Datum)) → Job → List ℕ →
    (ℕ → List Datum → Completion → Type 0) → (Completion → Type 0) → Completion → Type 0
Lets channel pick bodies Body Child c =
    (d : Completion) × Child d × LetOf (channel d) pick bodies Body d c

abbrev pub IsFailure : Completion → Type 0
IsFailure (Error e) = Unit {0}
IsFailure Stopped = Unit {0}
IsFailure _ = ⊥

-- how the children of a `when_all` ended, by their places
abbrev pub Ends : Type 0
Ends = ℕ → Completion

-- the data of all children in order, where each ended with a value
abbrev pub joined : (ℕ → List Datum) → ℕ → List Datum
joined values zero = []
joined values (suc n) = joined values n ++ values n

-- every child ends with a value
abbrev pub Joins : (ℕ → Completion → Type 0) → ℕ → Completion → Type 0
Joins Child count c =
    (values : ℕ → List Datum) × ((i : ℕ) → i < count → Child i (Value (values i)))
    × (c ≡ Value (joined values count))

-- the error of the child that failed first; where it stopped, any error of the others, else stopped
abbrev pub FailsWith : Completion → Ends → ℕ → Completion → Type 0
FailsWith (Error e) ends count c = c ≡ Error e
FailsWith Stopped ends count c =
    ((i : ℕ) × (e : List ℕ) × (i < count) × (ends i ≡ Error e) × (c ≡ Error e))
    ⊎ (((i : ℕ) (e : List ℕ) → i < count → ends i ≡ Error e → ⊥) × (c ≡ Stopped))
FailsWith _ ends count c = ⊥

-- child j fails first, as it may under the node's own stop state; each other child may have seen
-- the request that this makes
abbrev pub Fails : (StopState → ℕ → Completion → Type 0) → StopState → ℕ → Completion → Type 0
Fails Child q count c =
    (j : ℕ) × (ends : Ends) × (j < count) × Child q j (ends j) × IsFailure (ends j)
    × ((i : ℕ) → i < count → (i ≡ j → ⊥) → Child May i (ends i)) × FailsWith (ends j) ends count c

-- [exec.when.all]: joined where every child has a value, else the failure of the first that fails
abbrev pub AllOf : (StopState → ℕ → Completion → Type 0) → StopState → ℕ → Completion → Type 0
AllOf Child q count c = Joins (Child q) count c ⊎ Fails Child q count c

-- a failure of the second; or, where it has a value, a failure of the first, or both values joined
abbrev pub Joined2 : (Completion → Type 0) → (Completion → Type 0) → Completion → Type 0
Joined2 First Second c =
    (Second c × IsFailure c)
    ⊎ ((values : List Datum) × Second (Value values)
    × ((First c × IsFailure c)
    ⊎ ((front : List Datum) × First (Value front) × (c ≡ Value (front ++ values)))))

-- what a node may complete with, by what those before it may
abbrev pub Case : List Node → ℕ → Node → (ℕ → Meaning) → Meaning
Case nodes r Input Below a q c = c ≡ Value a
Case nodes r (Just values) Below a q c = c ≡ Value values
Case nodes r (JustError e) Below a q c = c ≡ Error e
Case nodes r JustStopped Below a q c = c ≡ Stopped
Case nodes r (Schedule on) Below a q c = OrStopped q (λ d. d ≡ Value []) c
Case nodes r (Delay turns) Below a q c = OrStopped q (λ d. d ≡ Value []) c
Case nodes r (ReadEnv query) Below a q c = Asks query r q c
Case nodes r (Then child job) Below a q c = ImageOf (then_of job) (Below child a q) c
Case nodes r (UponError child job) Below a q c = ImageOf (upon_error_of job) (Below child a q) c
Case nodes r (UponStopped child job) Below a q c = ImageOf (upon_stopped_of job) (Below child a q) c
Case nodes r (LetValue child pick bodies) Below a q c =
    Lets value_data pick bodies (λ n values d. Below n values q d) (Below child a q) c
Case nodes r (LetError child pick bodies) Below a q c =
    Lets error_data pick bodies (λ n values d. Below n values q d) (Below child a q) c
Case nodes r (LetStopped child pick bodies) Below a q c =
    Lets stopped_data pick bodies (λ n values d. Below n values q d) (Below child a q) c
Case nodes r (StartsOn on child) Below a q c = OrStopped q (Below child a q) c
Case nodes r (ContinuesOn child on) Below a q c = OrStopped q (Below child a q) c
Case nodes r (StoppedAsOptional child of) Below a q c = ImageOf as_optional (Below child a q) c
Case nodes r (StoppedAsError child e) Below a q c = ImageOf (as_error e) (Below child a q) c
Case nodes r (Bulk child job) Below a q c = ImageOf (bulk_of job) (Below child a q) c
Case nodes r (WhenAll children) Below a q c =
    OrStopped q (AllOf (λ s i d. Below (slice_index children i) a s d) q (length children)) c
Case nodes r (Part bulk part) Below a q c = c ≡ part_ending (job_of_bulk nodes bulk) a
Case nodes r (Unstoppable child) Below a q c = Below child a Never c
Case nodes r (Ahead first second) Below a q c = Joined2 (Below first a q) (Below second a q) c

-- the completions of node n under arguments, record number and stop state
abbrev pub Allowed : List Node → ℕ → List Datum → ℕ → StopState → Completion → Type 0
Allowed nodes n a r q c = by_node (λ _ _ d. d ≡ Stopped) (Case nodes r) nodes n a q c
