-- What a let makes of what its child has on the let's channel.
use Rattle.std.specs.Prelude.{⊤, ℕ, List, Option}
use Rattle.exec_value.specs.declared.data.Datum.{Datum}
use Rattle.exec_value.specs.declared.outcome.Completion.{Completion}
use Rattle.exec_job.specs.declared.job.Job.{Job}
use Rattle.plan_rules.specs.declared.node.Node.{Node}
use Rattle.plan_rules.specs.declared.node.Node.TheVariants.{LetValue, LetError, LetStopped}
use Rattle.plan_rules.specs.Settle.{let_of}
use Rattle.plan_settle.specs.declared.evaluation.Evaluation.{Evaluation}
use Rattle.plan_settle.specs.Settles.{settled_by}

abbrev pub IsLet : Node → Type 0
IsLet (LetValue child pick bodies) = ⊤
IsLet (LetError child pick bodies) = ⊤
IsLet (LetStopped child pick bodies) = ⊤
IsLet node = ⊥

-- data that were taken from the let's channel pick a body, which settles under them; where there
-- were none, the child's completion passes
abbrev pub settled_let : Evaluation → Job → List ℕ → Option (List Datum) → Completion → Completion
settled_let run pick bodies taken done =
    let_of taken pick bodies (λ n values. settled_by run n values) done
