-- Which nodes this crate steps.
use Rattle.std.specs.Prelude.{◌≡◌, ⊤, ℕ, List, slice_get, Option, Some}
use Rattle.exec_job.specs.declared.job.Job.{Job}
use Rattle.plan_rules.specs.declared.node.Node.{Node}
use Rattle.plan_rules.specs.declared.node.Node.TheVariants.{Bulk, Part}

abbrev pub IsBulkNode : Option Node → Type 0
IsBulkNode (Some (Bulk child job)) = ⊤
IsBulkNode _ = ⊥

abbrev pub IsPartNode : Option Node → Type 0
IsPartNode (Some (Part bulk part)) = ⊤
IsPartNode _ = ⊥

-- node n is a bulk
abbrev pub HasBulk : List Node → ℕ → Type 0
HasBulk nodes n = (child : ℕ) × (job : Job) × (slice_get nodes n ≡ Some (Bulk child job))
