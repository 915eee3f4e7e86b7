-- Completions that fit a signature, given by its parts.
use Rattle.std.proofs.Common.{◌≡◌, Bool, true, false, IsTrue, None, Ok, Err, inl, inr, refl, subst, sym, if◌then◌else◌}
use Rattle.exec_value.specs.declared.outcome.Completion.{Completion}
use Rattle.exec_value.specs.declared.outcome.Completion.TheVariants.{Value, Error, Stopped, NoMemory}
use Rattle.exec_job.specs.Answer.{Answer, ending}
use Rattle.plan_rules.specs.declared.stop.StopState.{StopState}
use Rattle.plan_rules.specs.declared.stop.StopState.TheVariants.{Never, May, Stands}
use Rattle.plan_rules.specs.Allowed.{OrStopped}
use Rattle.plan_kinds.specs.Shapes.{Shape}
use Rattle.plan_kinds.specs.Signatures.{Fits}
use Rattle.plan_kinds.specs.Laws.{AnswerFits}

-- a completion is a value of this shape, an error where one may come, or stopped where that may come
abbrev pub FitsAs : Shape → Bool → Bool → Completion → Type 0
FitsAs value may_error may_stop c =
    Fits (record { value = value; may_error = may_error; may_stop = may_stop }) c

-- what equals a completion that fits does so too
pub same-fits : (shape : Shape) (errs stops : Bool) (d c : Completion) → FitsAs shape errs stops d → c ≡ d →
    FitsAs shape errs stops c
same-fits shape errs stops d c fits e = subst (FitsAs shape errs stops) (sym e) fits

pub ending-fits : (shape : Shape) (fails stops : Bool) (answer : Answer) → AnswerFits shape fails answer →
    FitsAs shape fails stops (ending answer)
ending-fits shape fails stops (Ok values) fits = fits
ending-fits shape fails stops (Err name) fits = fits

-- what fits still does where more may come
pub wider-fits : (shape : Shape) (errs errs' stops stops' : Bool) → (IsTrue errs → IsTrue errs') →
    (IsTrue stops → IsTrue stops') → (c : Completion) → FitsAs shape errs stops c → FitsAs shape errs' stops' c
wider-fits shape errs errs' stops stops' more_errors more_stops (Value values) fits = fits
wider-fits shape errs errs' stops stops' more_errors more_stops (Error e) fits = more_errors fits
wider-fits shape errs errs' stops stops' more_errors more_stops Stopped fits = more_stops fits
wider-fits shape errs errs' stops stops' more_errors more_stops NoMemory fits = absurd fits

-- where the kinds match, the value is that of the node's case
pub matched-fits : (test : Bool) (shape : Shape) (errs stops : Bool) (c : Completion) → IsTrue test →
    FitsAs shape errs stops c → FitsAs (if test then shape else None) errs stops c
matched-fits true shape errs stops c match fits = fits
matched-fits false shape errs stops c match fits = cc

-- where stopped may come, so it may by a stop request
pub stopped-fits : (shape : Shape) (errs : Bool) (q : StopState) (Child : Completion → Type 0) →
    ((c : Completion) → Child c → FitsAs shape errs true c) → (c : Completion) → OrStopped q Child c →
    FitsAs shape errs true c
stopped-fits shape errs Never Child child c h = child c h
stopped-fits shape errs May Child child c h =
    elim h [ inl x ↦ child c x | inr e ↦ same-fits shape errs true Stopped c refl e ]
stopped-fits shape errs Stands Child child c h = same-fits shape errs true Stopped c refl h
