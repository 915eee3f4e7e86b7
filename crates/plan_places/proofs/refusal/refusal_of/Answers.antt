use Rattle.std.proofs.Common.{◌≡◌, ℕ, List, Result, Ok, Err, IfOk, refl}
use Rattle.plan_reader.specs.declared.fault.PlanFault.{PlanFault}
use Rattle.plan_reader.specs.declared.fault.PlanFault.TheVariants.{TooLong, NotJson, Form, UnknownName, Limit, Kinds, Excluded, NoMemory}
use Rattle.plan_places.specs.declared.refusal.Refusal.{Refusal}
use Rattle.plan_places.specs.Refusals.{IsRefusal, TellsOfValue}
use Rattle.plan_places.proofs.refusal.refusal_of.Goals as goal

-- of each fault of the JSON value that the bytes are
of_value : {E : Type 0} (bytes : List ℕ) (fault : PlanFault) (r : Result Refusal E)
    → (fault ≡ TooLong → ⊥) → (fault ≡ NotJson → ⊥) → (fault ≡ NoMemory → ⊥)
    → IfOk r (TellsOfValue bytes fault) → IfOk r (IsRefusal bytes fault)
of_value bytes fault (Err e) long json memory tells = tt
of_value bytes TooLong (Ok refusal) long json memory tells = absurd (long refl)
of_value bytes NotJson (Ok refusal) long json memory tells = absurd (json refl)
of_value bytes Form (Ok refusal) long json memory tells = tells
of_value bytes UnknownName (Ok refusal) long json memory tells = tells
of_value bytes Limit (Ok refusal) long json memory tells = tells
of_value bytes Kinds (Ok refusal) long json memory tells = tells
of_value bytes Excluded (Ok refusal) long json memory tells = tells
of_value bytes NoMemory (Ok refusal) long json memory tells = absurd (memory refl)

pub returns-in_default : goal.returns-in_default
returns-in_default c =
    of_value c.args.bytes.now c.args.fault c.told_of.result c.in_default.not-TooLong c.in_default.not-NotJson
    c.in_default.not-NoMemory c.told_of.ensures
