-- What holds of the kinds of jobs and of nodes.
use Rattle.std.specs.Prelude.{◌≡◌, ℕ, Bool, IsTrue, List, slice_get, Some, Ok, Err}
use Rattle.exec_value.specs.Kinds.{HaveKinds}
use Rattle.exec_value.specs.declared.kinds.Kind.{Kind}
use Rattle.exec_value.specs.declared.data.Datum.{Datum}
use Rattle.exec_value.specs.declared.outcome.Completion.{Completion}
use Rattle.exec_job.specs.Apply.{Answer, apply_of}
use Rattle.exec_job.specs.Takes.{takes}
use Rattle.exec_job.specs.declared.job.Job.{Job}
use Rattle.plan_rules.specs.declared.node.Node.{Node}
use Rattle.plan_rules.specs.declared.stop.StopState.{StopState}
use Rattle.plan_rules.specs.Allowed.{Allowed}
use Rattle.plan_laws.specs.Order.{IsOrdered}
use Rattle.plan_kinds.specs.Shapes.{Shape, HasShape}
use Rattle.plan_kinds.specs.Gives.{gives, may_fail}
use Rattle.plan_kinds.specs.Signatures.{sig_case, sig_of, Fits}
use Rattle.plan_kinds.specs.Reached.{Reaches, KindsMatch}
use Rattle.plan_kinds.specs.Built.{IsBuilt, AreArguments}

-- an answer is data of this shape, or an error, where one may come
abbrev pub AnswerFits : Shape → Bool → Answer → Type 0
AnswerFits shape fails (Ok values) = HasShape values shape
AnswerFits shape fails (Err e) = IsTrue fails

-- for data of kinds that it takes, a job gives what these kinds say, or an error where it may fail
abbrev pub JobsKeepKinds : Type 0
JobsKeepKinds =
    (job : Job) (values : List Datum) (kinds : List Kind) → HaveKinds values kinds →
    IsTrue (takes job kinds) → AnswerFits (gives job kinds) (may_fail job) (apply_of job values)

-- a node's signature is that of its case, by the signatures of its children
abbrev pub SignedByCase : Type 0
SignedByCase =
    (nodes : List Node) → IsOrdered nodes →
    (n : ℕ) (node : Node) → slice_get nodes n ≡ Some node → (a : Shape) →
    sig_of nodes n a ≡ sig_case nodes node (sig_of nodes) a

-- where the kinds of a plan match, a node that runs with arguments of the shape that it runs under
-- completes as its signature says, whatever the stop state
abbrev pub KindsKept : Type 0
KindsKept =
    (nodes : List Node) (input : Kind) → IsBuilt nodes → KindsMatch nodes input →
    (n : ℕ) (a : Shape) → Reaches nodes input n a →
    (values : List Datum) → AreArguments (slice_get nodes n) a values →
    (r : ℕ) (q : StopState) (c : Completion) → Allowed nodes n values r q c →
    Fits (sig_of nodes n a) c
