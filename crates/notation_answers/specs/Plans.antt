-- What a text in the notation is: a plan, or a text that is refused.
use Rattle.std.specs.Prelude.{◌≡◌, ◌≢◌, ⊤, ℕ, List, Ok, Err}
use Rattle.plan_shape.specs.Blueprint.{Blueprint}
use Rattle.plan_reader.specs.PlanFile.{IsFaultOf, IsPlanOf}
use Rattle.plan_reader.specs.declared.fault.PlanFault.{PlanFault}
use Rattle.plan_reader.specs.declared.fault.PlanFault.TheVariants as fault
use Rattle.plan_places.specs.Refusals.{IsRefusal}
use Rattle.plan_places.specs.declared.refusal.Refusal.{Refusal}
use Rattle.plan_notation.specs.Reading.{TextRead, read_in}
use Rattle.notation_answers.specs.Paths.{spot_in}
use Rattle.notation_answers.specs.declared.answer.NotationFault.{NotationFault}
use Rattle.notation_answers.specs.declared.answer.NotationFault.TheVariants.{Text, Plan, NoMemory}

-- the text is read, and its JSON is this plan
pub record IsPlanIn (text : List ℕ) (plan : Blueprint) : Type 0 where
  pub reads : TextRead
  pub is_read : read_in text ≡ Ok reads
  pub is_plan : IsPlanOf reads.json plan

-- the JSON is refused, and this is told of it
pub record IsRefusedJson (json : List ℕ) (refusal : Refusal) : Type 0 where
  pub why : PlanFault
  pub other : why ≢ fault.NoMemory
  pub is_fault : IsFaultOf json why
  pub is_refusal : IsRefusal json why refusal

abbrev pub IsRefusedAs : TextRead → NotationFault → Type 0
IsRefusedAs reads (Text refusal) = ⊥
IsRefusedAs reads (Plan refusal at) =
    IsRefusedJson reads.json refusal × (at ≡ spot_in reads refusal.place.items)
IsRefusedAs reads NoMemory = ⊤

-- the text is read, its JSON is refused, and this is told of it, where the node stands
pub record IsRefusedAtSpot (text : List ℕ) (refusal : Refusal) (at : ℕ) : Type 0 where
  pub reads : TextRead
  pub is_read : read_in text ≡ Ok reads
  pub is_refused : IsRefusedJson reads.json refusal
  pub at_is : at ≡ spot_in reads refusal.place.items

-- why a text is no plan
abbrev pub IsFaultIn : List ℕ → NotationFault → Type 0
IsFaultIn text (Text refusal) = read_in text ≡ Err refusal
IsFaultIn text (Plan refusal at) = IsRefusedAtSpot text refusal at
IsFaultIn text NoMemory = ⊤
