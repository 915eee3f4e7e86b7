-- Records that are calm: plain evaluation without a stop request meets no `when_all` that fails.
use Rattle.std.specs.Prelude.{ℕ, ◌<◌, false, List, [], ◌∷◌, length, slice_index, Option, Some, None, Result, Ok}
use Rattle.exec_value.specs.declared.data.Datum.{Datum}
use Rattle.exec_value.specs.declared.data.Datum.TheVariants.{Int}
use Rattle.exec_value.specs.declared.outcome.Completion.{Completion}
use Rattle.exec_value.specs.declared.outcome.Completion.TheVariants.{Value}
use Rattle.exec_job.specs.declared.job.Job.{Job}
use Rattle.exec_job.specs.Apply.{apply_of}
use Rattle.plan_rules.specs.declared.node.Node.{Node}
use Rattle.plan_rules.specs.declared.node.Node.TheVariants.{Input, Just, JustError, JustStopped, Schedule, Delay, ReadEnv, Then, UponError, UponStopped, LetValue, LetError, LetStopped, StartsOn, ContinuesOn, StoppedAsOptional, StoppedAsError, Bulk, WhenAll, Part, Unstoppable, Ahead}
use Rattle.plan_rules.specs.Tables.{by_node}
use Rattle.plan_rules.specs.Images.{value_data, error_data, stopped_data}
use Rattle.plan_rules.specs.Allowed.{body_at}
use Rattle.plan_rules.specs.Settle.{settle_of}

-- the completion is a value
abbrev pub IsValue : Completion → Type 0
IsValue (Value values) = Unit {0}
IsValue _ = ⊥

-- the body that is evaluated is calm; where none is, nothing is asked
abbrev pub CalmBody : Result (List Datum) (List ℕ) → List ℕ → (ℕ → Type 0) → Type 0
CalmBody (Ok (Int k ∷ [])) bodies Calm = Calm (body_at bodies k)
CalmBody answer bodies Calm = Unit {0}

abbrev pub CalmLet : Option (List Datum) → Job → List ℕ → (ℕ → List Datum → Type 0) → Type 0
CalmLet None pick bodies Calm = Unit {0}
CalmLet (Some values) pick bodies Calm = CalmBody (apply_of pick values) bodies (λ n. Calm n values)

-- the first of an `ahead` is evaluated where the second has a value
abbrev pub CalmFirst : Completion → Type 0 → Type 0
CalmFirst (Value values) Calm = Calm
CalmFirst _ Calm = Unit {0}

abbrev pub CalmCase : List Node → ℕ → Node → (ℕ → List Datum → Type 0) → List Datum → Type 0
CalmCase nodes r Input Below a = Unit {0}
CalmCase nodes r (Just values) Below a = Unit {0}
CalmCase nodes r (JustError e) Below a = Unit {0}
CalmCase nodes r JustStopped Below a = Unit {0}
CalmCase nodes r (Schedule on) Below a = Unit {0}
CalmCase nodes r (Delay turns) Below a = Unit {0}
CalmCase nodes r (ReadEnv query) Below a = Unit {0}
CalmCase nodes r (Then child job) Below a = Below child a
CalmCase nodes r (UponError child job) Below a = Below child a
CalmCase nodes r (UponStopped child job) Below a = Below child a
CalmCase nodes r (LetValue child pick bodies) Below a =
    Below child a × CalmLet (value_data (settle_of nodes child a r false)) pick bodies Below
CalmCase nodes r (LetError child pick bodies) Below a =
    Below child a × CalmLet (error_data (settle_of nodes child a r false)) pick bodies Below
CalmCase nodes r (LetStopped child pick bodies) Below a =
    Below child a × CalmLet (stopped_data (settle_of nodes child a r false)) pick bodies Below
CalmCase nodes r (StartsOn on child) Below a = Below child a
CalmCase nodes r (ContinuesOn child on) Below a = Below child a
CalmCase nodes r (StoppedAsOptional child of) Below a = Below child a
CalmCase nodes r (StoppedAsError child e) Below a = Below child a
CalmCase nodes r (Bulk child job) Below a = Below child a
CalmCase nodes r (WhenAll children) Below a =
    (i : ℕ) → i < length children →
    Below (slice_index children i) a × IsValue (settle_of nodes (slice_index children i) a r false)
CalmCase nodes r (Part bulk part) Below a = Unit {0}
CalmCase nodes r (Unstoppable child) Below a = Below child a
CalmCase nodes r (Ahead first second) Below a =
    Below second a × CalmFirst (settle_of nodes second a r false) (Below first a)

-- no child of an evaluated `when_all` fails
abbrev pub Calm : List Node → ℕ → List Datum → ℕ → Type 0
Calm nodes n a r = by_node (λ _. Unit {0}) (CalmCase nodes r) nodes n a
