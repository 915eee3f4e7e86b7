-- How a let goes on, by what its pick names.
use Rattle.std.proofs.Common.{◌≡◌, inr, ℕ, false, List, Option, Some, None, refl}
use Rattle.exec_value.specs.declared.data.Datum.{Datum}
use Rattle.exec_value.specs.declared.outcome.Completion.{Completion}
use Rattle.exec_value.specs.declared.outcome.Completion.TheVariants.{NoMemory}
use Rattle.plan_rules.specs.declared.node.Node.{Node}
use Rattle.plan_shape.specs.Blueprint.{Blueprint}
use Rattle.plan_kinds.specs.Runs.{bodies_of}
use Rattle.table_steps.specs.Views.{Board}
use Rattle.node_images.specs.Picks.{picked_body}
use Rattle.home_items.specs.Parcels.{Delivery}
use Rattle.exec_recv.specs.declared.next.Next.{Next}
use Rattle.exec_recv.specs.Seats.{HandSeat}
use Rattle.start_laws.specs.Lets.{channel_of}
use Rattle.step_parts.specs.Completes.{Completes}
use Rattle.step_parts.specs.Stepping.{Stepping}
use Rattle.exec_let.specs.declared.picking.Picked.TheVariants.{Answer, Passes}
use Rattle.exec_let.specs.Kinds.{is_small}
use Rattle.exec_let.specs.Lets.{GoesOn, Wants}
use Rattle.exec_let.specs.Picks.{answer_from, body_or, picked_for, PicksInPlace}

-- The pick names no body: it answers.
answer-is : (answer : Completion) (o : Option ℕ) (other : Completion) → body_or answer o ≡ Answer other → (o ≡ None) × (other ≡ answer)
answer-is answer None other e = (refl, cc)
answer-is answer (Some body) other e = cc

pub picks-answer : (node : Node) (o : Option (List Datum)) (answer : Completion) → picked_for node o ≡ Answer answer →
    (values : List Datum) × (o ≡ Some values) × (picked_body (answer_from node values) (bodies_of node) ≡ None) × (answer ≡ answer_from node values)
picks-answer node None answer e = cc
picks-answer node (Some values) answer e =
    let is = answer-is (answer_from node values) (picked_body (answer_from node values) (bodies_of node)) answer e in
    (values, refl, is.0, is.1)

-- what is on another channel passes
no-pass : {G : Type 0} (answer : Completion) (o : Option ℕ) → body_or answer o ≡ Passes → G
no-pass answer None e = cc
no-pass answer (Some body) e = cc

pub picks-passes : (node : Node) (o : Option (List Datum)) → picked_for node o ≡ Passes → o ≡ None
picks-passes node None e = refl
picks-passes node (Some values) e =
    no-pass (answer_from node values) (picked_body (answer_from node values) (bodies_of node)) e

module _ (board : Board Blueprint) (t : Stepping) (next : Next) (node : Node) (parcel : Delivery) (old new : HandSeat)
    (more : is_small parcel.completion ≡ false) (completes : Completes board t NoMemory false next old new) where
  wants-of : (o : Option (List Datum)) → channel_of node parcel.completion ≡ o → (PicksInPlace node o → ⊥) → Wants board t next node parcel old new
  wants-of None on large = absurd (large tt)
  wants-of (Some values) on large = record {
    values = values;
    on = on;
    large = λ in_place ends. large (in_place, ends);
    more = more;
    completes = completes;
  }

  -- there was no memory for the channel's data, or for what the pick answers to them
  pub wants-goes : (PicksInPlace node (channel_of node parcel.completion) → ⊥) → GoesOn board t node parcel next old new
  wants-goes large = inr (wants-of (channel_of node parcel.completion) refl large)
