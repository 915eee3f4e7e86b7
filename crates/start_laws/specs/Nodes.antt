-- What a node makes of one completion of its child, and what that rests on.
use Rattle.std.specs.Prelude.{◌≡◌, ⊤, ℕ, Bool, false, IsTrue, List, ◌∷◌, [], Option, Some, None, IfSome, slice_get}
use Rattle.exec_value.specs.declared.data.Datum.{Datum}
use Rattle.exec_value.specs.declared.outcome.Completion.{Completion}
use Rattle.exec_value.specs.declared.outcome.Completion.TheVariants.{Value}
use Rattle.exec_job.specs.declared.job.Job.{Job}
use Rattle.exec_job.specs.Apply.{TakesData, apply_of, ending}
use Rattle.exec_job.specs.Takes.{is_element}
use Rattle.plan_rules.specs.declared.node.Node.{Node}
use Rattle.plan_rules.specs.declared.node.Node.TheVariants.{Then, UponError, UponStopped, LetValue, LetError, LetStopped, StartsOn, ContinuesOn, StoppedAsOptional, StoppedAsError, Bulk, WhenAll, Unstoppable, Ahead}
use Rattle.plan_rules.specs.Images.{value_data, error_data, stopped_data, then_of, upon_error_of, upon_stopped_of, as_optional, as_error}
use Rattle.plan_rules.specs.Bulks.{bulk_of}
use Rattle.plan_rules.specs.Settle.{unless_asked}
use Rattle.plan_kinds.specs.Runs.{run_by}
use Rattle.node_images.specs.Picks.{picked_body}
use Rattle.home_items.specs.declared.entry.Entry.{Entry}
use Rattle.plan_kinds.specs.Runnable.{IsRunnable}
use Rattle.home_items.specs.Entries.{plan_of, node_of}
use Rattle.home_items.specs.Starts.{IsStart}

-- the node that a start is of, where it isn't the receiver node
abbrev pub start_node : List Entry → Option Node
start_node start = slice_get (plan_of start).nodes (node_of start)

-- The start is one of this node, in a plan whose kinds match.
pub record IsStartOf (start : List Entry) (node : Node) : Type 0 where
  pub start_is : IsStart start
  pub runnable : IsRunnable (plan_of start)
  pub node_is : start_node start ≡ Some node

-- The children below a node that run with its arguments: of an `ahead` the second alone, since the
-- first stands below the receiver node.
abbrev pub plain_children : Node → List ℕ
plain_children (Ahead first second) = second ∷ []
plain_children node = run_by node

-- What a node makes of one completion of its child, where a request was made before the operation
-- was started, or wasn't: a hop is stopped by it. Of a let it is what the pick answers where it
-- names no body. All others pass the completion.
abbrev pub image_of : Node → Bool → Completion → Completion
image_of (Then child job) asked done = then_of job done
image_of (UponError child job) asked done = upon_error_of job done
image_of (UponStopped child job) asked done = upon_stopped_of job done
image_of (LetValue child pick bodies) asked done = then_of pick done
image_of (LetError child pick bodies) asked done = upon_error_of pick done
image_of (LetStopped child pick bodies) asked done = upon_stopped_of pick done
image_of (StartsOn on child) asked done = unless_asked asked done
image_of (ContinuesOn child on) asked done = unless_asked asked done
image_of (StoppedAsOptional child of) asked done = as_optional done
image_of (StoppedAsError child name) asked done = as_error name done
image_of (Bulk child job) asked done = bulk_of job done
image_of node asked done = done

-- the data of a let's channel, where there are any, pick no body
abbrev pub PicksNone : Option (List Datum) → Job → List ℕ → Type 0
PicksNone None pick bodies = ⊤
PicksNone (Some values) pick bodies = picked_body (ending (apply_of pick values)) bodies ≡ None

-- The node completes with the image of this completion: a let where it picks no body, and an
-- `ahead` where its second child has no value.
abbrev pub MakesImage : Node → Completion → Type 0
MakesImage (Then child job) done = ⊤
MakesImage (UponError child job) done = ⊤
MakesImage (UponStopped child job) done = ⊤
MakesImage (LetValue child pick bodies) done = PicksNone (value_data done) pick bodies
MakesImage (LetError child pick bodies) done = PicksNone (error_data done) pick bodies
MakesImage (LetStopped child pick bodies) done = PicksNone (stopped_data done) pick bodies
MakesImage (StartsOn on child) done = ⊤
MakesImage (ContinuesOn child on) done = ⊤
MakesImage (StoppedAsOptional child of) done = ⊤
MakesImage (StoppedAsError child name) done = ⊤
MakesImage (Bulk child job) done = ⊤
MakesImage (Unstoppable child) done = ⊤
MakesImage (Ahead first second) (Value values) = ⊥
MakesImage (Ahead first second) done = ⊤
MakesImage node done = ⊥

-- The node awaits its children one at a time.
abbrev pub AwaitsOne : Node → Type 0
AwaitsOne (WhenAll children) = ⊥
AwaitsOne (Bulk child job) = ⊥
AwaitsOne node = ⊤

-- no request reaches the child of an `unstoppable`, so it saw none
abbrev pub MayHaveSeen : Node → Bool → Type 0
MayHaveSeen (Unstoppable child) saw = saw ≡ false
MayHaveSeen node saw = ⊤

-- The node's job takes what this completion has for it: what the calls of node_images ask.
abbrev pub JobTakes : Node → Completion → Type 0
JobTakes (Then child job) done = IfSome (value_data done) (TakesData job)
JobTakes (UponError child job) done = IfSome (error_data done) (TakesData job)
JobTakes (UponStopped child job) done = IfSome (stopped_data done) (TakesData job)
JobTakes (LetValue child pick bodies) done = IfSome (value_data done) (TakesData pick)
JobTakes (LetError child pick bodies) done = IfSome (error_data done) (TakesData pick)
JobTakes (LetStopped child pick bodies) done = IfSome (stopped_data done) (TakesData pick)
JobTakes (Bulk child job) done = IsTrue (is_element job)
JobTakes node done = ⊤
