-- How a let picks the body for what its child completed with.
use Rattle.std.specs.Prelude.{◌≡◌, ⊤, ℕ, ◌<◌, List, length, Option, Some, None, IfSome}
use Rattle.exec_value.specs.declared.data.Datum.{Datum}
use Rattle.exec_value.specs.declared.outcome.Completion.{Completion}
use Rattle.exec_value.specs.Place.{AreInPlace}
use Rattle.exec_job.specs.Answer.{ending, EndsInPlace}
use Rattle.exec_job.specs.Apply.{TakesData, apply_of}
use Rattle.plan_kinds.specs.Runs.{bodies_of}
use Rattle.plan_rules.specs.declared.node.Node.{Node}
use Rattle.node_images.specs.Picks.{picked_body}
use Rattle.start_laws.specs.Lets.{pick_of}
use Rattle.exec_let.specs.declared.picking.Picked.{Picked}
use Rattle.exec_let.specs.declared.picking.Picked.TheVariants.{Answer, Body, Passes}
use Rattle.exec_let.specs.Kinds.{IsLet}

-- what the pick answers to these data
abbrev pub answer_from : Node → List Datum → Completion
answer_from node values = ending (apply_of (pick_of node) values)

-- the body, where one is named, and else the answer
abbrev pub body_or : Completion → Option ℕ → Picked
body_or answer (Some body) = Body body
body_or answer None = Answer answer

-- how the let goes on with the data that a completion has on its channel
abbrev pub picked_for : Node → Option (List Datum) → Picked
picked_for node None = Passes
picked_for node (Some values) =
    body_or (answer_from node values) (picked_body (answer_from node values) (bodies_of node))

abbrev pub Picks : Node → Option (List Datum) → Picked → Type 0
Picks node values picked = picked ≡ picked_for node values

-- this is a let with bodies, and its pick takes the data, where there are any
pub record CanPick (node : Node) (values : Option (List Datum)) : Type 0 where
  pub is_let : IsLet node
  pub takes : IfSome values (TakesData (pick_of node))
  pub some : 0 < length (bodies_of node)

-- the data stand in place, and so does what the pick answers to them
abbrev pub PicksInPlace : Node → Option (List Datum) → Type 0
PicksInPlace node None = ⊤
PicksInPlace node (Some values) =
    AreInPlace values × EndsInPlace (apply_of (pick_of node) values)
