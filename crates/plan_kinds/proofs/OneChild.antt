-- Adaptors that make their completion of one of their child keep kinds.
use Rattle.std.proofs.Common.{ℕ, Bool, false, IsTrue, ◌&&◌, ◌||◌, List, [], ◌∷◌, Some, None, sym, subst}
use Rattle.std.specs.Option.{option_and_then}
use Rattle.std.proofs.lemmas.Bool.{and_parts, or_left, or_right}
use Rattle.exec_value.specs.Kinds.{HasKind, HaveKinds}
use Rattle.exec_value.specs.declared.kinds.Kind.{Kind}
use Rattle.exec_value.specs.declared.kinds.Kind.TheVariants.{Int as IntKind, Text as TextKind}
use Rattle.exec_value.specs.declared.data.Datum.{Datum}
use Rattle.exec_value.specs.declared.data.Datum.TheVariants.{Int, Text, Nothing}
use Rattle.exec_value.specs.declared.outcome.Completion.{Completion}
use Rattle.exec_value.specs.declared.outcome.Completion.TheVariants.{Value, Error, Stopped, NoMemory}
use Rattle.exec_job.specs.Apply.{apply_of, ending}
use Rattle.exec_job.specs.Takes.{takes}
use Rattle.exec_job.specs.declared.job.Job.{Job}
use Rattle.plan_rules.specs.Images.{then_of, upon_error_of, upon_stopped_of, some_of, as_optional, as_error, has_maybe}
use Rattle.plan_kinds.specs.Equal.{same_kinds, Decides-same_kinds}
use Rattle.plan_kinds.specs.Shapes.{Shape, common, all_agree, never_or}
use Rattle.plan_kinds.specs.Gives.{gives, may_fail}
use Rattle.plan_kinds.specs.Values.{maybe_of}
use Rattle.plan_kinds.proofs.Jobs.{jobs-keep_kinds, one-datum}
use Rattle.plan_kinds.proofs.Fitting.{FitsAs, ending-fits, wider-fits}
use Rattle.plan_kinds.proofs.Agreeing.{front-common, second-common}

-- how a job ends that takes data of these kinds
pub job-fits : (job : Job) (kinds : List Kind) (values : List Datum) (stops : Bool) →
    IsTrue (takes job kinds) → HaveKinds values kinds →
    FitsAs (gives job kinds) (may_fail job) stops (ending (apply_of job values))
job-fits job kinds values stops takes have =
    ending-fits (gives job kinds) (may_fail job) stops (apply_of job values)
    (jobs-keep_kinds job values kinds have takes)

pub then-fits : (job : Job) (shape : Shape) (errs stops : Bool) → IsTrue (never_or (takes job) shape) →
    (d : Completion) → FitsAs shape errs stops d →
    FitsAs (option_and_then (gives job) shape) (errs || may_fail job) stops (then_of job d)
then-fits job (Some kinds) errs stops match (Value values) fits =
    wider-fits (gives job kinds) (may_fail job) (errs || may_fail job) stops stops
    (or_right errs (may_fail job)) (λ x. x) (ending (apply_of job values))
    (job-fits job kinds values stops match fits)
then-fits job None errs stops match (Value values) fits = absurd fits
then-fits job shape errs stops match (Error e) fits = or_left errs (may_fail job) fits
then-fits job shape errs stops match Stopped fits = fits
then-fits job shape errs stops match NoMemory fits = absurd fits

-- a completion that fits a shape which agrees with the one in front
second-fits : (shape other : Shape) (errs stops : Bool) → IsTrue (all_agree (shape ∷ other ∷ [])) →
    (c : Completion) → FitsAs other errs stops c → FitsAs (common (shape ∷ other ∷ [])) errs stops c
second-fits shape other errs stops agree (Value values) fits = second-common shape other values agree fits
second-fits shape other errs stops agree (Error e) fits = fits
second-fits shape other errs stops agree Stopped fits = fits
second-fits shape other errs stops agree NoMemory fits = absurd fits

pub upon_error-fits : (job : Job) (shape : Shape) (errs stops : Bool) →
    IsTrue (takes job (TextKind ∷ []) && all_agree (shape ∷ gives job (TextKind ∷ []) ∷ [])) →
    (d : Completion) → FitsAs shape errs stops d →
    FitsAs (common (shape ∷ gives job (TextKind ∷ []) ∷ [])) (may_fail job) stops (upon_error_of job d)
upon_error-fits job shape errs stops match (Value values) fits =
    front-common shape (gives job (TextKind ∷ []) ∷ []) values fits
upon_error-fits job shape errs stops match (Error e) fits =
    let given : Shape = gives job (TextKind ∷ []) in
    let parts = and_parts (takes job (TextKind ∷ [])) (all_agree (shape ∷ given ∷ [])) match in
    second-fits shape given (may_fail job) stops parts.1 (ending (apply_of job (Text e ∷ [])))
    (job-fits job (TextKind ∷ []) (Text e ∷ []) stops parts.0 (tt, tt))
upon_error-fits job shape errs stops match Stopped fits = fits
upon_error-fits job shape errs stops match NoMemory fits = absurd fits

pub upon_stopped-fits : (job : Job) (shape : Shape) (errs stops : Bool) →
    IsTrue (takes job [] && all_agree (shape ∷ gives job [] ∷ [])) →
    (d : Completion) → FitsAs shape errs stops d →
    FitsAs (common (shape ∷ gives job [] ∷ [])) (errs || may_fail job) false (upon_stopped_of job d)
upon_stopped-fits job shape errs stops match (Value values) fits =
    front-common shape (gives job [] ∷ []) values fits
upon_stopped-fits job shape errs stops match (Error e) fits = or_left errs (may_fail job) fits
upon_stopped-fits job shape errs stops match Stopped fits =
    let given : Shape = gives job [] in
    let parts = and_parts (takes job []) (all_agree (shape ∷ given ∷ [])) match in
    wider-fits (common (shape ∷ given ∷ [])) (may_fail job) (errs || may_fail job) false false
    (or_right errs (may_fail job)) (λ x. x) (ending (apply_of job []))
    (second-fits shape given (may_fail job) false parts.1 (ending (apply_of job []))
    (job-fits job [] [] false parts.0 tt))
upon_stopped-fits job shape errs stops match NoMemory fits = absurd fits

-- "some" of a datum, and no datum, are of the maybe kind
some-kind : (datum : Datum) (kind : Kind) → HasKind datum kind → IsTrue (has_maybe kind) →
    HasKind (some_of datum) (maybe_of kind)
some-kind (Int x) IntKind have maybe = tt
some-kind datum IntKind have maybe = absurd have
some-kind (Text bytes) TextKind have maybe = tt
some-kind datum TextKind have maybe = absurd have
some-kind datum kind have maybe = cc

none-kind : (kind : Kind) → IsTrue (has_maybe kind) → HasKind Nothing (maybe_of kind)
none-kind IntKind maybe = tt
none-kind TextKind maybe = tt
none-kind kind maybe = cc

optional-value : (of : Kind) (values : List Datum) → IsTrue (has_maybe of) → HaveKinds values (of ∷ []) →
    (errs : Bool) → FitsAs (Some (maybe_of of ∷ [])) errs false (as_optional (Value values))
optional-value of values maybe have errs =
    let one = one-datum values of have in
    subst (λ (l : List Datum). FitsAs (Some (maybe_of of ∷ [])) errs false (as_optional (Value l))) (sym one.2)
    (some-kind one.0 of one.1 maybe, tt)

pub optional-fits : (of : Kind) (shape : Shape) (errs stops : Bool) → IsTrue (has_maybe of) →
    IsTrue (never_or (same_kinds (of ∷ [])) shape) →
    (d : Completion) → FitsAs shape errs stops d →
    FitsAs (Some (maybe_of of ∷ [])) errs false (as_optional d)
optional-fits of (Some kinds) errs stops maybe match (Value values) fits =
    optional-value of values maybe
    (subst (HaveKinds values) (sym ((Decides-same_kinds (of ∷ []) kinds).0 match)) fits) errs
optional-fits of None errs stops maybe match (Value values) fits = absurd fits
optional-fits of shape errs stops maybe match (Error e) fits = fits
optional-fits of shape errs stops maybe match Stopped fits = (none-kind of maybe, tt)
optional-fits of shape errs stops maybe match NoMemory fits = absurd fits

pub error-fits : (e : List ℕ) (shape : Shape) (errs stops : Bool) → (d : Completion) →
    FitsAs shape errs stops d → FitsAs shape (errs || stops) false (as_error e d)
error-fits e shape errs stops (Value values) fits = fits
error-fits e shape errs stops (Error name) fits = or_left errs stops fits
error-fits e shape errs stops Stopped fits = or_right errs stops fits
error-fits e shape errs stops NoMemory fits = absurd fits
