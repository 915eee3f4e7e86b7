-- What the types of a plan's parts tell of them: numbers fit, texts are texts, and lists are short.
use Rattle.std.specs.Prelude.{◌≤◌, ⊤, List, ℤ, All, length, FitsSigned}
use Rattle.std.specs.Int.{w64}
use Rattle.exec_value.specs.Text.{IsText}
use Rattle.exec_value.specs.declared.limits.TheConstants.{DATA, NUMBERS}
use Rattle.exec_value.specs.declared.data.Datum.{Datum}
use Rattle.exec_value.specs.declared.data.Datum.TheVariants.{Int, Text, Row}
use Rattle.exec_job.specs.declared.job.Job.{Job}
use Rattle.exec_job.specs.declared.job.Job.TheVariants.{Add, Sub, Mul, Div, Within, Append, Give, IntOr, TextOr}
use Rattle.plan_rules.specs.declared.node.Node.{Node}
use Rattle.plan_rules.specs.declared.node.Node.TheVariants.{Just, Then, UponError, UponStopped, LetValue, LetError, LetStopped, Bulk}

-- a number is one of an `i64`
abbrev pub IsLong : ℤ → Type 0
IsLong n = FitsSigned w64 n

-- a row's numbers
pub record IsRow (numbers : List ℤ) : Type 0 where
  pub few : length numbers ≤ NUMBERS
  pub each : All IsLong numbers

-- a constant's parts
abbrev pub IsHeldDatum : Datum → Type 0
IsHeldDatum (Int n) = IsLong n
IsHeldDatum (Text text) = IsText text
IsHeldDatum (Row numbers) = IsRow numbers
IsHeldDatum datum = ⊤

pub record AreHeld (values : List Datum) : Type 0 where
  pub few : length values ≤ DATA
  pub each : All IsHeldDatum values

-- a job's parts
abbrev pub IsHeldJob : Job → Type 0
IsHeldJob (Add n) = IsLong n
IsHeldJob (Sub n) = IsLong n
IsHeldJob (Mul n) = IsLong n
IsHeldJob (Div n) = IsLong n
IsHeldJob (Within lo hi) = IsLong lo × IsLong hi
IsHeldJob (Append text) = IsText text
IsHeldJob (Give values) = AreHeld values
IsHeldJob (IntOr n) = IsLong n
IsHeldJob (TextOr text) = IsText text
IsHeldJob job = ⊤

-- a node's parts beside its children
abbrev pub IsHeldNode : Node → Type 0
IsHeldNode (Just values) = AreHeld values
IsHeldNode (Then child job) = IsHeldJob job
IsHeldNode (UponError child job) = IsHeldJob job
IsHeldNode (UponStopped child job) = IsHeldJob job
IsHeldNode (LetValue child pick bodies) = IsHeldJob pick
IsHeldNode (LetError child pick bodies) = IsHeldJob pick
IsHeldNode (LetStopped child pick bodies) = IsHeldJob pick
IsHeldNode (Bulk child job) = IsHeldJob job
IsHeldNode node = ⊤
