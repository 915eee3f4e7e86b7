-- The parts of a let ([exec.let]), of whichever channel.
use Rattle.std.specs.Prelude.{List, Option, None}
use Rattle.exec_value.specs.declared.data.Datum.{Datum}
use Rattle.exec_value.specs.declared.outcome.Completion.{Completion}
use Rattle.exec_job.specs.declared.job.Job.{Job}
use Rattle.exec_job.specs.declared.job.Job.TheVariants.{Pass}
use Rattle.plan_rules.specs.declared.node.Node.{Node}
use Rattle.plan_rules.specs.declared.node.Node.TheVariants.{LetValue, LetError, LetStopped}
use Rattle.plan_rules.specs.Images.{value_data, error_data, stopped_data}

-- the data of a completion on the let's channel; none of another node
abbrev pub channel_of : Node → Completion → Option (List Datum)
channel_of (LetValue child pick bodies) done = value_data done
channel_of (LetError child pick bodies) done = error_data done
channel_of (LetStopped child pick bodies) done = stopped_data done
channel_of node done = None

-- the job that picks the body
abbrev pub pick_of : Node → Job
pick_of (LetValue child pick bodies) = pick
pick_of (LetError child pick bodies) = pick
pick_of (LetStopped child pick bodies) = pick
pick_of node = Pass
