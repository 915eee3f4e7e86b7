-- What a small plan settles to stands in place, or is an error with a long name.
use Rattle.std.specs.Prelude.{IsTrue, IsOk, OnErr, Some, None, Result, Ok, Err}
use Rattle.std.proofs.Common.{◌≡◌, ◌⊎◌, ℕ, ◌<◌, Bool, List, [], ◌∷◌, length, refl, sym, subst, inl, inr, arith}
use Rattle.std.specs.declared.alloc.AllocError.{AllocError}
use Rattle.std.proofs.lemmas.Bool.{and_parts, cases_lt}
use Rattle.std.proofs.lemmas.List.Elements.{All-nil, All-cons}
use Rattle.exec_value.specs.Kinds.{HaveKinds}
use Rattle.exec_value.specs.Place.{IsInPlace, AreInPlace}
use Rattle.exec_value.specs.declared.limits.TheConstants.{INLINE_BYTES}
use Rattle.exec_value.specs.declared.kinds.Kind.{Kind}
use Rattle.exec_value.specs.declared.kinds.Kind.TheVariants.{Int as IntKind}
use Rattle.exec_value.specs.declared.data.Datum.{Datum}
use Rattle.exec_value.specs.declared.data.Datum.TheVariants.{Int}
use Rattle.exec_value.specs.declared.outcome.Completion.{Completion}
use Rattle.exec_value.specs.declared.outcome.Completion.TheVariants.{Value, Error, Stopped, NoMemory}
use Rattle.exec_job.specs.Answer.{Answer, EndsInPlace}
use Rattle.exec_job.specs.Apply.{apply_of}
use Rattle.exec_job.specs.Takes.{is_int, takes}
use Rattle.exec_job.specs.declared.job.Job.{Job}
use Rattle.plan_rules.specs.Settle.{settle_of}
use Rattle.plan_kinds.specs.Shapes.{Shape, HasShape, never_or}
use Rattle.plan_kinds.specs.Gives.{gives, may_fail, picks}
use Rattle.plan_kinds.specs.Signatures.{sig_of, Fits}
use Rattle.plan_kinds.specs.Laws.{AnswerFits}
use Rattle.plan_kinds.specs.declared.sig.Sig.{Sig}
use Rattle.plan_kinds.proofs.Jobs.{jobs-keep_kinds, one-int}
use Rattle.plan_shape.specs.Blueprint.{Blueprint}
use Rattle.node_images.specs.Makes.{CompletesInPlace}
use Rattle.plan_kinds.specs.Runnable.{RunsWith, IsRunnable}
use Rattle.plan_settle.specs.Runs.{SettlesLong}
use Rattle.plan_kinds.specs.Small.{IsSmallShape, IsSmall}
use Rattle.plan_kinds.proofs.Runnable.{settles-in_kind}

pub none-in_place : AreInPlace []
none-in_place = record { few = omega arith; each = All-nil IsInPlace }

pub one-in_place : (datum : Datum) → IsInPlace datum → AreInPlace (datum ∷ [])
one-in_place datum place =
    record { few = omega arith; each = All-cons IsInPlace datum [] place (All-nil IsInPlace) }

-- data of a small shape do
pub shape-in_place : (shape : Shape) → IsSmallShape shape → (values : List Datum) → HasShape values shape →
    AreInPlace values
shape-in_place None small values have = absurd have
shape-in_place (Some []) small [] have = none-in_place
shape-in_place (Some []) small (x ∷ xs) have = absurd have
shape-in_place (Some (IntKind ∷ [])) small values have =
    let one = one-int values have in subst AreInPlace (sym one.1) (one-in_place (Int one.0) tt)
shape-in_place shape small values have = absurd small

-- a completion of a small signature does, or is an error with a long name
completion-place : (sig : Sig) → IsSmallShape sig.value → (c : Completion) → Fits sig c →
    CompletesInPlace c ⊎ ((name : List ℕ) × (c ≡ Error name) × (INLINE_BYTES < length name))
completion-place sig small (Value values) fits = inl (shape-in_place sig.value small values fits)
completion-place sig small (Error name) fits = elim (cases_lt INLINE_BYTES (length name)) [
  | inl long ↦ inr (name, refl, long)
  | inr short ↦ inl short
]
completion-place sig small Stopped fits = inl tt
completion-place sig small NoMemory fits = inl tt

pub settled-place : (plan : Blueprint) → IsRunnable plan → IsSmall plan → (n : ℕ) (args : List Datum)
    (runs : RunsWith plan n args) (r : ℕ) (asked : Bool) →
    CompletesInPlace (settle_of plan.nodes n args r asked) ⊎ SettlesLong plan r
settled-place plan runnable small n args runs r asked =
    elim (completion-place (sig_of plan.nodes n runs.shape) (small.values n runs.shape runs.reached)
    (settle_of plan.nodes n args r asked) (settles-in_kind plan runnable n args runs r asked)) [
      | inl place ↦ inl place
      | inr e ↦ inr (record {
        node = n;
        args = args;
        asked = asked;
        name = e.0;
        runs = runs;
        settles = e.1;
        long = e.2;
      })
    ]

-- a pick's answer is one int, or an error
answer-place : (shape : Shape) (fails : Bool) → IsTrue (never_or is_int shape) → (answer : Answer) →
    AnswerFits shape fails answer →
    EndsInPlace answer ⊎ ((name : List ℕ) × (answer ≡ Err name) × (INLINE_BYTES < length name))
answer-place None fails int (Ok values) fits = absurd fits
answer-place (Some (IntKind ∷ [])) fails int (Ok values) fits =
    inl (shape-in_place (Some (IntKind ∷ [])) tt values fits)
answer-place shape fails int (Err name) fits = elim (cases_lt INLINE_BYTES (length name)) [
  | inl long ↦ inr (name, refl, long)
  | inr short ↦ inl short
]
answer-place shape fails int (Ok values) fits = cc

pub pick-place : (pick : Job) (kinds : List Kind) → IsTrue (picks pick kinds) →
    (values : List Datum) → HaveKinds values kinds →
    EndsInPlace (apply_of pick values)
    ⊎ ((name : List ℕ) × (apply_of pick values ≡ Err name) × (INLINE_BYTES < length name))
pick-place pick kinds match values have =
    let parts = and_parts (takes pick kinds) (never_or is_int (gives pick kinds)) match in
    answer-place (gives pick kinds) (may_fail pick) parts.1 (apply_of pick values)
    (jobs-keep_kinds pick values kinds have parts.0)

-- a call that wants no memory in the one case wants it in the other alone
pub wants-where : {A P Q : Type 0} (result : Result A AllocError) → (P → IsOk result) → P ⊎ Q → OnErr result Q
wants-where (Ok made) fine cases = tt
wants-where (Err e) fine (inl p) = let ok = fine p in cc
wants-where (Err e) fine (inr q) = q
