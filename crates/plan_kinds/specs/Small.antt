-- Small plans, whose evaluation wants memory for long names of errors alone.
use Rattle.std.specs.Prelude.{◌≡◌, ◌≤◌, ⊤, ℕ, List, [], ◌∷◌, length, slice_get, Some, None}
use Rattle.exec_value.specs.declared.kinds.Kind.TheVariants.{Int}
use Rattle.exec_value.specs.declared.limits.TheConstants.{INLINE_BYTES}
use Rattle.exec_job.specs.declared.job.Job.{Job}
use Rattle.exec_job.specs.declared.job.Job.TheVariants.{Fail}
use Rattle.plan_rules.specs.declared.node.Node.{Node}
use Rattle.plan_rules.specs.declared.node.Node.TheVariants.{JustError, Then, UponError, UponStopped, LetValue, LetError, LetStopped, StoppedAsError, Bulk, Part, Ahead}
use Rattle.plan_kinds.specs.Shapes.{Shape}
use Rattle.plan_kinds.specs.Signatures.{sig_of}
use Rattle.plan_kinds.specs.Reached.{Reaches}
use Rattle.plan_shape.specs.Blueprint.{Blueprint}

-- never a value, no data, or one int
abbrev pub IsSmallShape : Shape → Type 0
IsSmallShape None = ⊤
IsSmallShape (Some []) = ⊤
IsSmallShape (Some (Int ∷ [])) = ⊤
IsSmallShape shape = ⊥

-- the node is no `bulk`, which has parts, and no `ahead`
abbrev pub IsSmallNode : Node → Type 0
IsSmallNode (Bulk child job) = ⊥
IsSmallNode (Part bulk part) = ⊥
IsSmallNode (Ahead first second) = ⊥
IsSmallNode node = ⊤

-- a small plan: of int records, without `bulk` and `ahead`, each of whose values is no data or one
-- int, and each of whose errors has an error name
pub record IsSmall (plan : Blueprint) : Type 0 where
  pub input : plan.settings.input ≡ Int
  pub nodes_are : (n : ℕ) (node : Node) → slice_get plan.nodes n ≡ Some node → IsSmallNode node
  pub values : (n : ℕ) (a : Shape) → Reaches plan.nodes plan.settings.input n a →
      IsSmallShape (sig_of plan.nodes n a).value

-- the name of the error that a job gives of its own; the empty one where it has none
abbrev pub name_of_job : Job → List ℕ
name_of_job (Fail name) = name
name_of_job job = []

-- the same of a node
abbrev pub own_name : Node → List ℕ
own_name (JustError name) = name
own_name (StoppedAsError child name) = name
own_name (Then child job) = name_of_job job
own_name (UponError child job) = name_of_job job
own_name (UponStopped child job) = name_of_job job
own_name (LetValue child pick bodies) = name_of_job pick
own_name (LetError child pick bodies) = name_of_job pick
own_name (LetStopped child pick bodies) = name_of_job pick
own_name node = []

-- each error name that the plan says stands in place, so that a copy of it wants no memory
abbrev pub HasShortNames : Blueprint → Type 0
HasShortNames plan =
    (n : ℕ) (node : Node) → slice_get plan.nodes n ≡ Some node →
    length (own_name node) ≤ INLINE_BYTES
