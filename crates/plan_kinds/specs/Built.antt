-- What holds of nodes as a builder makes them, as far as their kinds rest on it.
use Rattle.std.specs.Prelude.{◌≡◌, ⊤, IsTrue, ℕ, ◌<◌, pos, ℤ, List, [], ◌∷◌, length, slice_get, All, Option, Some}
use Rattle.exec_value.specs.declared.data.Datum.{Datum}
use Rattle.exec_value.specs.declared.data.Datum.TheVariants.{Int, Row}
use Rattle.exec_job.specs.declared.job.Job.{Job}
use Rattle.plan_rules.specs.declared.node.Node.{Node}
use Rattle.plan_rules.specs.declared.node.Node.TheVariants.{LetValue, LetError, LetStopped, StoppedAsOptional, Bulk, Part}
use Rattle.plan_rules.specs.Children.{named_by}
use Rattle.plan_rules.specs.Images.{has_maybe}
use Rattle.plan_laws.specs.Order.{IsOrdered}
use Rattle.plan_kinds.specs.Shapes.{Shape, HasShape}

-- the number is that of a bulk
abbrev pub IsBulk : List Node → ℕ → Type 0
IsBulk nodes n = (child : ℕ) × (job : Job) × (slice_get nodes n ≡ Some (Bulk child job))

-- a let has a body, an optional is of an int or a text, and a part is one of a bulk
abbrev pub IsWhole : List Node → Node → Type 0
IsWhole nodes (LetValue child pick bodies) = 0 < length bodies
IsWhole nodes (LetError child pick bodies) = 0 < length bodies
IsWhole nodes (LetStopped child pick bodies) = 0 < length bodies
IsWhole nodes (StoppedAsOptional child of) = IsTrue (has_maybe of)
IsWhole nodes (Part bulk part) = IsBulk nodes bulk
IsWhole nodes node = ⊤

-- a node that isn't a part of a bulk
abbrev pub IsNoPart : Option Node → Type 0
IsNoPart (Some (Part bulk part)) = ⊥
IsNoPart _ = ⊤

-- children stand before their parents, each node is whole, and none has a part as its child
pub record IsBuilt (nodes : List Node) : Type 0 where
  pub ordered : IsOrdered nodes
  pub whole : (n : ℕ) (node : Node) → slice_get nodes n ≡ Some node → IsWhole nodes node
  pub no_parts : (n : ℕ) (node : Node) → slice_get nodes n ≡ Some node →
      All (λ k. IsNoPart (slice_get nodes k)) (named_by node)

-- a share of a row: some of its elements, and the index of the first of them
abbrev pub IsShare : List Datum → Type 0
IsShare values = (numbers : List ℤ) × (first : ℕ) × (values ≡ Row numbers ∷ Int (pos first) ∷ [])

-- data that a node may run with, where it runs under arguments of this shape
abbrev pub AreArguments : Option Node → Shape → List Datum → Type 0
AreArguments (Some (Part bulk part)) a values = IsShare values
AreArguments _ a values = HasShape values a
