-- How the step of an adaptor goes on whose child has completed.
use Rattle.std.proofs.Common.{◌≡◌, ◌≢◌, true, false, subst, sym}
use Rattle.exec_value.specs.declared.outcome.Completion.{Completion}
use Rattle.exec_value.specs.declared.outcome.Completion.TheVariants.{Error, NoMemory}
use Rattle.plan_kinds.specs.Small.{IsSmall, own_name}
use Rattle.plan_rules.specs.declared.node.Node.{Node}
use Rattle.plan_shape.specs.Blueprint.{Blueprint}
use Rattle.table_steps.specs.Views.{Board}
use Rattle.home_items.specs.Bounds.{least_of}
use Rattle.home_items.specs.Contents.{Done}
use Rattle.home_items.specs.Entries.{asked_of, plan_of}
use Rattle.home_items.specs.Parcels.{Delivery, MayDeliver, parcel_with}
use Rattle.exec_recv.specs.Seats.{HandSeat}
use Rattle.start_laws.specs.Nodes.{IsStartOf, JobTakes}
use Rattle.start_laws.proofs.Bounding.{few-begun}
use Rattle.start_laws.proofs.ImageCases.{images-allowed, want-passes}
use Rattle.start_laws.proofs.Operands.{jobs-take}
use Rattle.start_laws.proofs.Rooms.{room-there}
use Rattle.step_parts.specs.Completes.{MayEnd}
use Rattle.step_parts.specs.Stepping.{Stepping}
use Rattle.step_parts.proofs.Frames.{ready-less}
use Rattle.step_parts.proofs.Wanted.{want-ends}
use Rattle.step_parts.proofs.Took.{taken-inner, taken-of}
use Rattle.exec_adapt.specs.Ends.{MayPass}
use Rattle.exec_adapt.specs.Images.{adapted_to, names_error, StandsButForName}
use Rattle.exec_adapt.proofs.Making.{image-any, image-named}
use Rattle.exec_adapt.proofs.Places.{adaptor-awaits, adaptor-makes, adaptor-sees}

module _ (board : Board Blueprint) (t : Stepping) (node : Node) (parcel : Delivery) (hand : HandSeat) (pass : MayPass board t node parcel hand) where
  abbrev of : IsStartOf t.start node
  of = taken-of board t hand pass.taken node pass.node_is

  -- the node's job takes what the child completed with
  pub pass-takes : JobTakes node parcel.completion
  pass-takes = jobs-take t.start node of parcel pass.has.from.delivers pass.has.from.child

  -- what the node makes of it may be delivered
  pass-may : MayDeliver t.start parcel.saw (adapted_to node parcel.completion)
  pass-may =
      subst (λ (c : Completion). MayDeliver t.start parcel.saw c) (image-any node pass.adaptor (asked_of t.start) parcel.completion)
      (images-allowed t.start node of parcel pass.has.from.delivers pass.has.from.child (adaptor-makes node pass.adaptor parcel.completion)
      (adaptor-sees node pass.adaptor parcel.saw))

  pass-memory : IsSmall (plan_of t.start) → adapted_to node parcel.completion ≢ NoMemory
  pass-memory small =
      subst (λ (c : Completion). c ≢ NoMemory) (image-any node pass.adaptor (asked_of t.start) parcel.completion)
      (want-passes.no_other t.start node of parcel pass.has.from.delivers pass.has.from.child
      (adaptor-makes node pass.adaptor parcel.completion) (adaptor-sees node pass.adaptor parcel.saw) (pass.has.from.small small))

  pass-made : MayEnd board t (adapted_to node parcel.completion) parcel.saw hand
  pass-made =
      let image : Delivery = parcel_with t.start (adapted_to node parcel.completion) parcel.saw in
      record {
        taken = pass.taken;
        inner = taken-inner board t hand pass.taken node pass.node_is;
        allowed = pass-may;
        few = ready-less board t.name t.start hand.me 1 (least_of (Done image))
            (few-begun.one image node of.node_is (adaptor-awaits node pass.adaptor)) pass.has.ready;
        sees = pass.has.from.saw;
        small = pass-memory;
      }

  -- it may complete so
  pub pass-ends : (done : Completion) → done ≡ adapted_to node parcel.completion → MayEnd board t done parcel.saw hand
  pass-ends done made = subst (λ (c : Completion). MayEnd board t c parcel.saw hand) (sym made) pass-made

  -- and with the error that it names
  pub pass-names : names_error node parcel.completion ≡ true → MayEnd board t (Error (own_name node)) parcel.saw hand
  pass-names named = pass-ends (Error (own_name node)) (sym (image-named node parcel.completion named))

  -- where what it makes doesn't stand in place, it may complete with want of memory
  pub pass-wants : (StandsButForName (adapted_to node parcel.completion) → ⊥) → MayEnd board t NoMemory false hand
  pass-wants large =
      want-ends board t hand pass.taken (taken-inner board t hand pass.taken node pass.node_is)
      (λ small. large (room-there.in_place t.start node of small parcel.saw (adapted_to node parcel.completion) pass-may))
