-- What holds of the nodes that a builder holds: they are a forest, children before their parent.
use Rattle.std.specs.Prelude.{◌≡◌, ℕ, ◌+◌, ◌-◌, ◌<◌, ◌≤◌, List, length, slice_get, Some, IsTrue, All}
use Rattle.exec_job.specs.declared.job.Job.{Job}
use Rattle.common_lemmas.specs.Lists.{are_different}
use Rattle.plan_rules.specs.declared.node.Node.{Node}
use Rattle.plan_rules.specs.declared.node.Node.TheVariants.{Bulk, Part}
use Rattle.plan_shape.specs.declared.limits.TheConstants.{MOST_PLAN_NODES, MOST_DEPTH, BULK_PARTS}
use Rattle.plan_shape.specs.Children.{children_of, part_count}
use Rattle.plan_shape.specs.Parents.{parent_of}
use Rattle.plan_shape.specs.Depths.{depth_of}
use Rattle.plan_shape.specs.Conditions.{MeetsConditions, has_lawful_count}

-- node n is the bulk's part of this number
pub record IsPartOf (nodes : List Node) (n bulk part : ℕ) : Type 0 where
  pub within : part < BULK_PARTS
  pub place : bulk + part ≡ n + BULK_PARTS
  pub bulk_stands : (child : ℕ) × (job : Job) × (slice_get nodes bulk ≡ Some (Bulk child job))

-- a part is one of its bulk's, and any other node is as its call asks
abbrev pub IsMade : List Node → ℕ → Node → Type 0
IsMade nodes n (Part bulk part) = IsPartOf nodes n bulk part
IsMade nodes n node = MeetsConditions node

-- what holds of node n
pub record IsPlaced (nodes : List Node) (n : ℕ) (node : Node) : Type 0 where
  pub made : IsMade nodes n node
  pub count : IsTrue (has_lawful_count node)
  pub below : All (λ c. c < n) (children_of n node)
  pub distinct : IsTrue (are_different (children_of n node))
  pub only_parent : All (λ c. parent_of nodes c ≡ Some n) (children_of n node)
  pub parts : (i : ℕ) → i < part_count node →
      slice_get nodes (n - part_count node + i) ≡ Some (Part n i)
  pub shallow : depth_of nodes n ≤ MOST_DEPTH

-- each node has at most one parent, and none is too deep
pub record IsForest (nodes : List Node) : Type 0 where
  pub few : length nodes ≤ MOST_PLAN_NODES
  pub each : (n : ℕ) (node : Node) → slice_get nodes n ≡ Some node → IsPlaced nodes n node
