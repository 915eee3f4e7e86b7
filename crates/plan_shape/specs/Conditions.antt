-- What the calls of a builder ask of what a node is made of.
use Rattle.std.specs.Prelude.{ℕ, ◌<◌, ◌≤◌, ⊤, Bool, true, ◌&&◌, IsTrue, All, length, nat_le}
use Rattle.exec_value.specs.ErrorName.{is_error_name}
use Rattle.exec_value.specs.Kinds.{IsConstant}
use Rattle.exec_value.specs.declared.limits.TheConstants.{DATA}
use Rattle.exec_job.specs.Takes.{is_element}
use Rattle.exec_job.specs.declared.job.Job.{Job}
use Rattle.exec_job.specs.declared.job.Job.TheVariants.{Fail, At, Give}
use Rattle.plan_rules.specs.Images.{has_maybe}
use Rattle.plan_rules.specs.declared.node.Node.{Node}
use Rattle.plan_rules.specs.declared.node.Node.TheVariants.{Just, JustError, Delay, Then, UponError, UponStopped, LetValue, LetError, LetStopped, StoppedAsOptional, StoppedAsError, Bulk, WhenAll, Part}
use Rattle.plan_shape.specs.declared.limits.TheConstants.{FEWEST_CHILDREN, MOST_CHILDREN, MOST_BODIES, MOST_TURNS}

-- what the job is made of is as jobs ask: an error name, the place of a datum, constants
abbrev pub IsLawfulJob : Job → Type 0
IsLawfulJob (Fail name) = IsTrue (is_error_name name)
IsLawfulJob (At place) = place < DATA
IsLawfulJob (Give values) = All IsConstant values
IsLawfulJob job = ⊤

-- what the node is made of is as its call asks; no call adds a part by itself
abbrev pub MeetsConditions : Node → Type 0
MeetsConditions (Just values) = All IsConstant values
MeetsConditions (JustError name) = IsTrue (is_error_name name)
MeetsConditions (Delay turns) = turns ≤ MOST_TURNS
MeetsConditions (Then child job) = IsLawfulJob job
MeetsConditions (UponError child job) = IsLawfulJob job
MeetsConditions (UponStopped child job) = IsLawfulJob job
MeetsConditions (LetValue child pick bodies) = IsLawfulJob pick
MeetsConditions (LetError child pick bodies) = IsLawfulJob pick
MeetsConditions (LetStopped child pick bodies) = IsLawfulJob pick
MeetsConditions (StoppedAsOptional child of) = IsTrue (has_maybe of)
MeetsConditions (StoppedAsError child name) = IsTrue (is_error_name name)
MeetsConditions (Bulk child job) = IsTrue (is_element job)
MeetsConditions (Part bulk part) = ⊥
MeetsConditions node = ⊤

-- a length is within these bounds
abbrev pub is_within : ℕ → ℕ → ℕ → Bool
is_within fewest most n = nat_le fewest n && nat_le n most

-- a `when_all` has 2 to 64 children, and a let 1 to 16 bodies
abbrev pub has_lawful_count : Node → Bool
has_lawful_count (LetValue child pick bodies) = is_within 1 MOST_BODIES (length bodies)
has_lawful_count (LetError child pick bodies) = is_within 1 MOST_BODIES (length bodies)
has_lawful_count (LetStopped child pick bodies) = is_within 1 MOST_BODIES (length bodies)
has_lawful_count (WhenAll children) = is_within FEWEST_CHILDREN MOST_CHILDREN (length children)
has_lawful_count node = true
