-- A job takes what a completion has on its channel, where it takes the kinds of it.
use Rattle.std.specs.Prelude.{IsTrue, IfSome}
use Rattle.std.proofs.Common.{◌≡◌, List, [], ◌∷◌, Some, None, refl}
use Rattle.exec_value.specs.declared.kinds.Kind.TheVariants.{Text as TextKind}
use Rattle.exec_value.specs.declared.data.Datum.{Datum}
use Rattle.exec_value.specs.declared.outcome.Completion.{Completion}
use Rattle.exec_value.specs.declared.outcome.Completion.TheVariants.{Value, Error, Stopped}
use Rattle.exec_job.specs.Apply.{TakesData}
use Rattle.exec_job.specs.Takes.{takes}
use Rattle.exec_job.specs.declared.job.Job.{Job}
use Rattle.plan_rules.specs.Images.{value_data, error_data, stopped_data}
use Rattle.plan_kinds.specs.Shapes.{Shape, HasShape, never_or}
use Rattle.plan_kinds.specs.Signatures.{Fits}
use Rattle.plan_kinds.specs.declared.sig.Sig.{Sig}

-- a value, where the completion is one, has this shape
abbrev pub HasValue : Shape → Completion → Type 0
HasValue shape (Value values) = HasShape values shape
HasValue shape done = Unit {0}

-- so it has where its signature says so
pub fits-value : (sig : Sig) (done : Completion) → Fits sig done → HasValue sig.value done
fits-value sig (Value values) fits = fits
fits-value sig done fits = tt

pub has-value : (shape : Shape) (done : Completion) →
    ((values : List Datum) → done ≡ Value values → HasShape values shape) → HasValue shape done
has-value shape (Value values) each = each values refl
has-value shape done each = tt

shape-taken : (job : Job) (shape : Shape) (values : List Datum) → IsTrue (never_or (takes job) shape) →
    HasShape values shape → TakesData job values
shape-taken job None values takes have = absurd have
shape-taken job (Some kinds) values takes have = (kinds, have, takes)

pub value-taken : (job : Job) (shape : Shape) (done : Completion) → IsTrue (never_or (takes job) shape) →
    HasValue shape done → IfSome (value_data done) (TakesData job)
value-taken job shape (Value values) takes has = shape-taken job shape values takes has
value-taken job shape done takes has = tt

pub error-taken : (job : Job) (done : Completion) → IsTrue (takes job (TextKind ∷ [])) →
    IfSome (error_data done) (TakesData job)
error-taken job (Error name) takes = (TextKind ∷ [], (tt, tt), takes)
error-taken job done takes = tt

pub stopped-taken : (job : Job) (done : Completion) → IsTrue (takes job []) →
    IfSome (stopped_data done) (TakesData job)
stopped-taken job Stopped takes = ([], tt, takes)
stopped-taken job done takes = tt
