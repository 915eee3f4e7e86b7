-- Plain evaluation on one thread: with no stop request, or where one was made before the start.
use Rattle.std.specs.Prelude.{ℕ, pos, Bool, true, false, List, [], ◌∷◌, ◌++◌, map, Option, Some, None, Result, Ok}
use Rattle.exec_value.specs.declared.data.Datum.{Datum}
use Rattle.exec_value.specs.declared.data.Datum.TheVariants.{Int}
use Rattle.exec_value.specs.declared.outcome.Completion.{Completion}
use Rattle.exec_value.specs.declared.outcome.Completion.TheVariants.{Value, Error, Stopped}
use Rattle.exec_job.specs.declared.job.Job.{Job}
use Rattle.exec_job.specs.Apply.{apply_of, ending}
use Rattle.plan_rules.specs.declared.node.Node.{Node}
use Rattle.plan_rules.specs.declared.node.Node.TheVariants.{Input, Just, JustError, JustStopped, Schedule, Delay, ReadEnv, Then, UponError, UponStopped, LetValue, LetError, LetStopped, StartsOn, ContinuesOn, StoppedAsOptional, StoppedAsError, Bulk, WhenAll, Part, Unstoppable, Ahead}
use Rattle.plan_rules.specs.declared.node.Query.{Query}
use Rattle.plan_rules.specs.declared.node.Query.TheVariants.{Stop, Record}
use Rattle.plan_rules.specs.declared.stop.StopState.{StopState}
use Rattle.plan_rules.specs.declared.stop.StopState.TheVariants.{Never, Stands}
use Rattle.plan_rules.specs.Tables.{by_node}
use Rattle.plan_rules.specs.Images.{value_data, error_data, stopped_data, then_of, upon_error_of, upon_stopped_of, as_optional, as_error}
use Rattle.plan_rules.specs.Bulks.{bulk_of, job_of_bulk, part_ending}
use Rattle.plan_rules.specs.Allowed.{body_at}

-- the stop state of an operation, where a stop was asked before its start, and where none ever is
abbrev pub stop_state : Bool → StopState
stop_state true = Stands
stop_state false = Never

-- stopped where a stop was asked, else so
abbrev pub unless_asked : Bool → Completion → Completion
unless_asked true c = Stopped
unless_asked false c = c

-- what the environment shows: 1 where a stop was asked, else 0
abbrev pub shown_of : Query → ℕ → Bool → Completion
shown_of Stop number true = Value (Int (pos 1) ∷ [])
shown_of Stop number false = Value (Int (pos 0) ∷ [])
shown_of Record number asked = Value (Int (pos number) ∷ [])

-- the picked body's completion, or what else the pick gives
abbrev pub picked_of : Result (List Datum) (List ℕ) → List ℕ → (ℕ → Completion) → Completion
picked_of (Ok (Int k ∷ [])) bodies body = body (body_at bodies k)
picked_of answer bodies body = ending answer

-- a let's child completes with d: where it has data for the let, the picked body runs on them, and
-- else d passes
abbrev pub let_of : Option (List Datum) → Job → List ℕ → (ℕ → List Datum → Completion) →
    Completion → Completion
let_of None pick bodies body d = d
let_of (Some values) pick bodies body d = picked_of (apply_of pick values) bodies
    (λ n. body n values)

-- the same, where the channel's data are read from d
abbrev pub lets_of : (Completion → Option (List Datum)) → Job → List ℕ →
    (ℕ → List Datum → Completion) → Completion → Completion
lets_of channel pick bodies body d = let_of (channel d) pick bodies body d

-- a child's completion, in order, before those of the children after it: all values are joined,
-- else the first error, else stopped
abbrev pub and_then : Completion → Completion → Completion
and_then (Value front) (Value values) = Value (front ++ values)
and_then (Value front) c = c
and_then (Error e) c = Error e
and_then c (Error e) = Error e
and_then c d = Stopped

abbrev pub all_of : List Completion → Completion
all_of [] = Value []
all_of (c ∷ cs) = and_then c (all_of cs)

-- what the first completes with where the second has a value, which then stands behind
abbrev pub ahead_of : Completion → Completion → Completion
ahead_of (Value front) (Value values) = Value (front ++ values)
ahead_of c (Value values) = c
ahead_of c d = d

-- the completions of nodes, by their arguments and whether a stop was asked
abbrev pub Settled : Type 0
Settled = ℕ → List Datum → Bool → Completion

-- what a node completes with, as those before it do; a hop completes stopped where a stop was asked
abbrev pub settle_case : List Node → ℕ → Node → Settled → List Datum → Bool → Completion
settle_case nodes r Input below a asked = Value a
settle_case nodes r (Just values) below a asked = Value values
settle_case nodes r (JustError e) below a asked = Error e
settle_case nodes r JustStopped below a asked = Stopped
settle_case nodes r (Schedule on) below a asked = unless_asked asked (Value [])
settle_case nodes r (Delay turns) below a asked = unless_asked asked (Value [])
settle_case nodes r (ReadEnv query) below a asked = shown_of query r asked
settle_case nodes r (Then child job) below a asked = then_of job (below child a asked)
settle_case nodes r (UponError child job) below a asked = upon_error_of job (below child a asked)
settle_case nodes r (UponStopped child job) below a asked = upon_stopped_of job
    (below child a asked)
settle_case nodes r (LetValue child pick bodies) below a asked =
    lets_of value_data pick bodies (λ n b. below n b asked) (below child a asked)
settle_case nodes r (LetError child pick bodies) below a asked =
    lets_of error_data pick bodies (λ n b. below n b asked) (below child a asked)
settle_case nodes r (LetStopped child pick bodies) below a asked =
    lets_of stopped_data pick bodies (λ n b. below n b asked) (below child a asked)
settle_case nodes r (StartsOn on child) below a asked = unless_asked asked (below child a asked)
settle_case nodes r (ContinuesOn child on) below a asked = unless_asked asked (below child a asked)
settle_case nodes r (StoppedAsOptional child of) below a asked = as_optional (below child a asked)
settle_case nodes r (StoppedAsError child e) below a asked = as_error e (below child a asked)
settle_case nodes r (Bulk child job) below a asked = bulk_of job (below child a asked)
settle_case nodes r (WhenAll children) below a asked =
    unless_asked asked (all_of (map (λ n. below n a false) children))
settle_case nodes r (Part bulk part) below a asked = part_ending (job_of_bulk nodes bulk) a
settle_case nodes r (Unstoppable child) below a asked = below child a false
settle_case nodes r (Ahead first second) below a asked =
    ahead_of (below first a asked) (below second a asked)

-- the completion of node n by plain evaluation
abbrev pub settle_of : List Node → ℕ → List Datum → ℕ → Bool → Completion
settle_of nodes n a r asked = by_node (λ _ _. Stopped) (settle_case nodes r) nodes n a asked
