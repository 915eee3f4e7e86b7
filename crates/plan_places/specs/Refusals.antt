-- Which refusal is told of bytes that are no plan for this cause.
use Rattle.std.specs.Prelude.{◌≡◌, ℕ, Bool, true, false, List, string_bytes, Some, Ok}
use Rattle.serde_json.specs.Data.{Data}
use Rattle.plan_kinds.specs.declared.sig.Sig.{Sig}
use Rattle.plan_kinds.specs.Reached.{IsFirstMismatch}
use Rattle.plan_reader.specs.declared.fault.PlanFault.{PlanFault}
use Rattle.plan_reader.specs.declared.fault.PlanFault.TheVariants.{TooLong, NotJson, Form, UnknownName, Limit, Kinds, Excluded, NoMemory}
use Rattle.plan_reader.specs.declared.found.Found.{Found}
use Rattle.plan_reader.specs.PlanFile.{IsRefused}
use Rattle.plan_reader.specs.Plans.{found_in, json_of}
use Rattle.plan_reasons.specs.declared.own.Fault.TheVariants as fault
use Rattle.sig_check.specs.Checked.{AreSignatures}
use Rattle.plan_places.specs.declared.refusal.Cause.TheVariants as cause
use Rattle.plan_places.specs.declared.refusal.Refusal.{Refusal}
use Rattle.plan_places.specs.Told.{IsPosition, Tells, excluding, faulty, limited, long_reason, mismatched, no_json, of_whole, with_other_job}

-- what is told of the JSON value of the bytes
abbrev pub OfValue : List ℕ → (Data → Type 0) → Type 0
OfValue bytes Is = (d : Data) → json_of bytes ≡ Some d → Is d

-- where the job of some bulk is no element job, the first of these; else the first node in the
-- order of numbers whose kinds don't match, by the signatures of the plan
pub record TellsMismatch (found : Found) (refusal : Refusal) : Type 0 where
  pub node : ℕ
  pub first : IsFirstMismatch found.plan.nodes found.plan.settings.input node
  pub sigs : List Sig
  pub are : AreSignatures found.plan sigs
  pub tells : Tells (mismatched found.plan.nodes sigs node) refusal

abbrev pub MayTell : Found → Refusal → Type 0
MayTell found refusal = IsRefused found Kinds → TellsMismatch found refusal

abbrev pub TellsOtherJob : Data → Refusal → Type 0
TellsOtherJob d = Tells (with_other_job d)

abbrev pub TellsKinds : Bool → Data → Found → Refusal → Type 0
TellsKinds false d found = TellsOtherJob d
TellsKinds true d found = TellsMismatch found

abbrev pub TellsFound : Found → Data → Refusal → Type 0
TellsFound found d refusal = IsRefused found Kinds → TellsKinds found.elements d found refusal

abbrev pub TellsRefused : List ℕ → Data → Refusal → Type 0
TellsRefused bytes d refusal =
    (found : Found) → found_in bytes ≡ Ok found → TellsFound found d refusal

-- the position that `serde_json` tells
pub record TellsPosition (refusal : Refusal) : Type 0 where
  pub cause_is : refusal.cause ≡ cause.NotJson
  pub place_is : IsPosition refusal.place.items
  pub reason_is : string_bytes refusal.reason ≡ no_json

-- the same of bytes with this JSON value
abbrev pub IsValueRefusal : List ℕ → Data → PlanFault → Refusal → Type 0
IsValueRefusal bytes d Form refusal = Tells (faulty cause.Form fault.Form d) refusal
IsValueRefusal bytes d UnknownName refusal = Tells (faulty cause.UnknownName fault.Name d) refusal
IsValueRefusal bytes d Limit refusal = Tells (limited d) refusal
IsValueRefusal bytes d Kinds refusal = TellsRefused bytes d refusal
IsValueRefusal bytes d Excluded refusal = Tells (excluding d) refusal
IsValueRefusal bytes d fault refusal = ⊥

abbrev pub TellsOfValue : List ℕ → PlanFault → Refusal → Type 0
TellsOfValue bytes fault refusal = OfValue bytes (λ d. IsValueRefusal bytes d fault refusal)

abbrev pub IsRefusal : List ℕ → PlanFault → Refusal → Type 0
IsRefusal bytes TooLong refusal = Tells (of_whole cause.TooLong long_reason) refusal
IsRefusal bytes NotJson refusal = TellsPosition refusal
IsRefusal bytes NoMemory refusal = ⊥
IsRefusal bytes fault refusal = TellsOfValue bytes fault refusal
