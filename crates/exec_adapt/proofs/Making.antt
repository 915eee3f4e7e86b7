-- What an adaptor makes of its child's completion, by its kind.
use Rattle.std.proofs.Common.{◌≡◌, Bool, true, false, ◌&&◌, List, [], ◌∷◌, refl}
use Rattle.exec_value.specs.declared.data.Datum.{Datum}
use Rattle.exec_value.specs.declared.data.Datum.TheVariants.{Text}
use Rattle.exec_value.specs.declared.outcome.Completion.{Completion}
use Rattle.exec_value.specs.declared.outcome.Completion.TheVariants.{Value, Error, Stopped, NoMemory}
use Rattle.exec_job.specs.Answer.{ending}
use Rattle.exec_job.specs.Apply.{apply_of}
use Rattle.exec_job.specs.declared.job.Job.{Job}
use Rattle.exec_job.specs.declared.job.Job.TheVariants.{Fail}
use Rattle.plan_rules.specs.declared.node.Node.{Node}
use Rattle.plan_rules.specs.declared.node.Node.TheVariants.{Then, UponError, UponStopped, StoppedAsOptional, StoppedAsError}
use Rattle.plan_kinds.specs.Small.{own_name}
use Rattle.start_laws.specs.Nodes.{image_of}
use Rattle.exec_adapt.specs.Kinds.{IsAdaptor}
use Rattle.exec_adapt.specs.Images.{is_fail, names_error, adapted_to}

-- an adaptor makes the same, whatever was asked
pub image-any : (node : Node) → IsAdaptor node → (asked : Bool) (done : Completion) → image_of node asked done ≡ adapted_to node done
image-any (Then child job) is asked done = refl
image-any (UponError child job) is asked done = refl
image-any (UponStopped child job) is asked done = refl
image-any (StoppedAsOptional child of) is asked done = refl
image-any (StoppedAsError child name) is asked done = refl
image-any node is asked done = absurd is

fail-image : (job : Job) (values : List Datum) → is_fail job ≡ true → ending (apply_of job values) ≡ Error (own_name (Then 0 job))
fail-image (Fail name) values is = refl
fail-image job values is = cc

-- where what it makes is the error of a name that the plan says, it is that
pub image-named : (node : Node) (done : Completion) → names_error node done ≡ true → adapted_to node done ≡ Error (own_name node)
image-named (Then child job) (Value values) is = fail-image job values is
image-named (UponError child job) (Error name) is = fail-image job (Text name ∷ []) is
image-named (UponStopped child job) Stopped is = fail-image job [] is
image-named (StoppedAsError child name) Stopped is = refl
image-named (StoppedAsOptional child of) (Value values) is = cc
image-named (StoppedAsOptional child of) (Error name) is = cc
image-named (StoppedAsOptional child of) Stopped is = cc
image-named (StoppedAsOptional child of) NoMemory is = cc
image-named node done is = cc

pub and-right : (a b : Bool) → (a && b) ≡ true → b ≡ true
and-right true b is = is
and-right false b is = cc
