-- What an adaptor makes of one completion of its child.
use Rattle.std.specs.Prelude.{◌⊎◌, ℕ, Bool, true, false, ◌&&◌}
use Rattle.exec_value.specs.declared.outcome.Completion.{Completion}
use Rattle.exec_value.specs.declared.outcome.Completion.TheVariants.{Value, Error, Stopped}
use Rattle.exec_job.specs.declared.job.Job.{Job}
use Rattle.exec_job.specs.declared.job.Job.TheVariants.{Fail}
use Rattle.plan_rules.specs.declared.node.Node.{Node}
use Rattle.plan_rules.specs.declared.node.Node.TheVariants.{Just, ReadEnv, Then, UponError, UponStopped, StoppedAsOptional, StoppedAsError}
use Rattle.plan_rules.specs.Settle.{shown_of}
use Rattle.node_images.specs.Makes.{CompletesInPlace}
use Rattle.start_laws.specs.Nodes.{image_of}
use Rattle.start_laws.specs.RoomLaws.{IsLongError}

-- what a node completes with that is made of the plan alone, or answered by its environment, for
-- the record of this number and where this was found of a stop
abbrev pub made_of : Node → ℕ → Bool → Completion
made_of (Just values) number stop = Value values
made_of (ReadEnv query) number stop = shown_of query number stop
made_of node number stop = Stopped

-- the completion is on the node's channel, so that the node makes something of it; others pass
abbrev pub acts_on : Node → Completion → Bool
acts_on (Then child job) (Value values) = true
acts_on (UponError child job) (Error name) = true
acts_on (UponStopped child job) Stopped = true
acts_on (StoppedAsOptional child of) (Value values) = true
acts_on (StoppedAsOptional child of) Stopped = true
acts_on (StoppedAsError child name) Stopped = true
acts_on node done = false

-- the job gives the error of a name
abbrev pub is_fail : Job → Bool
is_fail (Fail name) = true
is_fail job = false

-- what the node makes is the error of a name that the plan says
abbrev pub has_own_name : Node → Bool
has_own_name (Then child job) = is_fail job
has_own_name (UponError child job) = is_fail job
has_own_name (UponStopped child job) = is_fail job
has_own_name (StoppedAsError child name) = true
has_own_name node = false

-- of this completion it makes that error
abbrev pub names_error : Node → Completion → Bool
names_error node done = acts_on node done && has_own_name node

-- what an adaptor makes, whatever was asked
abbrev pub adapted_to : Node → Completion → Completion
adapted_to node done = image_of node false done

-- the completion stands in place, or its error name alone doesn't
abbrev pub StandsButForName : Completion → Type 0
StandsButForName done = CompletesInPlace done ⊎ IsLongError done
