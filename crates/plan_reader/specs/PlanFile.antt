-- What bytes are: a plan, or bytes that are refused for one of seven causes. Of these facts exactly
-- one holds of any bytes.
use Rattle.std.specs.Prelude.{◌≡◌, ◌≤◌, ⊤, ℕ, true, IsTrue, IsFalse, List, length, Ok, Err}
use Rattle.plan_rules.specs.Exclusion.{exclude_each_other}
use Rattle.plan_shape.specs.Blueprint.{Blueprint}
use Rattle.plan_kinds.specs.Reached.{KindsMatch}
use Rattle.sig_check.specs.declared.fault.SigFault.{SigFault}
use Rattle.sig_check.specs.declared.fault.SigFault.TheVariants as sig
use Rattle.plan_reader.specs.declared.found.Found.{Found}
use Rattle.plan_reader.specs.declared.fault.PlanFault.{PlanFault}
use Rattle.plan_reader.specs.declared.fault.PlanFault.TheVariants.{Kinds, Excluded, NoMemory}
use Rattle.plan_reader.specs.declared.read.TheConstants.{MOST_PLAN_BYTES}
use Rattle.plan_reader.specs.Plans.{found_in}

-- the kinds of a plan match, the jobs of its bulks among them
pub record Matches (found : Found) : Type 0 where
  pub elements : found.elements ≡ true
  pub kinds : KindsMatch found.plan.nodes found.plan.settings.input

-- a plan that was read is accepted as this plan
pub record IsAccepted (found : Found) (plan : Blueprint) : Type 0 where
  pub same : plan ≡ found.plan
  pub matches : Matches found
  pub rules : IsFalse (exclude_each_other plan.settings)

-- a plan that was read is refused: its kinds don't match, or they do and its settings exclude each
-- other
abbrev pub IsRefused : Found → PlanFault → Type 0
IsRefused found Kinds = Matches found → ⊥
IsRefused found Excluded = Matches found × IsTrue (exclude_each_other found.plan.settings)
IsRefused found NoMemory = ⊤
IsRefused found fault = ⊥

-- how a refusal of the check of kinds is answered
abbrev pub kinds_fault : SigFault → PlanFault
kinds_fault (sig.Kinds node) = Kinds
kinds_fault sig.NoMemory = NoMemory

-- the bytes are this plan
abbrev pub IsPlanOf : List ℕ → Blueprint → Type 0
IsPlanOf bytes plan = (found : Found) × (found_in bytes ≡ Ok found) × IsAccepted found plan

-- the bytes are refused for this cause; want of memory says only that they aren't too many
abbrev pub IsFaultOf : List ℕ → PlanFault → Type 0
IsFaultOf bytes Kinds = (found : Found) × (found_in bytes ≡ Ok found) × IsRefused found Kinds
IsFaultOf bytes Excluded = (found : Found) × (found_in bytes ≡ Ok found) × IsRefused found Excluded
IsFaultOf bytes NoMemory = length bytes ≤ MOST_PLAN_BYTES
IsFaultOf bytes fault = found_in bytes ≡ Err fault
