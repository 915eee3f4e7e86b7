-- Each of these ends its step.
use Rattle.std.proofs.Common.{◌≡◌, inl, inr, Bool, true, false, Option, Some, None, refl, subst}
use Rattle.life_rules.specs.declared.event.Name.{Name}
use Rattle.plan_rules.specs.declared.node.Node.{Node}
use Rattle.plan_rules.specs.declared.node.Query.{Query}
use Rattle.plan_rules.specs.declared.node.Query.TheVariants.{Stop, Record}
use Rattle.plan_shape.specs.Blueprint.{Blueprint}
use Rattle.table_steps.specs.Views.{Board}
use Rattle.exec_value.specs.declared.outcome.Completion.{Completion}
use Rattle.home_items.specs.declared.item.State.{State}
use Rattle.home_items.specs.Parcels.{Delivery}
use Rattle.exec_recv.specs.declared.next.Next.{Next}
use Rattle.exec_recv.specs.Seats.{HandSeat}
use Rattle.exec_recv.specs.Sites.{Steps}
use Rattle.std.specs.Prelude.{ℕ}
use Rattle.step_parts.specs.Stepping.{Stepping}
use Rattle.step_parts.specs.Takes.{TakesState}
use Rattle.step_parts.proofs.Started.{again-steps, top-steps}
use Rattle.exec_adapt.specs.Adapts.{Answers, Ends, EndsWith, GoesOn, GoesOnAgain}
use Rattle.exec_adapt.specs.Images.{names_error}
use Rattle.exec_adapt.specs.Receives.{ReadsTop, Receives, RestsAgain}

-- what ends there is the step of x, which began here
pub steps-as : (board : Board Blueprint) (x : Name) (taken : Stepping) (state : State) (old up : HandSeat) → TakesState board x taken state old up →
    (next : Next) (new : HandSeat) → Steps board taken.name next taken.from new → Steps board x next old new
steps-as board x taken state old up takes next new steps =
    subst (λ (h : HandSeat). Steps board x next h new) takes.from_is
    (subst (λ (y : Name). Steps board y next taken.from new) takes.name_is steps)

some-cases : {G : Type 0} (o : Option Delivery) → ((parcel : Delivery) → o ≡ Some parcel → G) → (o ≡ None → G) → G
some-cases None some none = none refl
some-cases (Some parcel) some none = some parcel refl

bool-cases : {G : Type 0} (b : Bool) → (b ≡ true → G) → (b ≡ false → G) → G
bool-cases true is isnt = is refl
bool-cases false is isnt = isnt refl

module _ (board : Board Blueprint) (t : Stepping) (next : Next) (new : HandSeat) where
  pub with-steps : (old : HandSeat) (done : Completion) (saw : Bool) → EndsWith board t done saw next old new → Steps board t.name next t.from new
  with-steps old done saw (inl completes) = completes.steps
  with-steps old done saw (inr wants) = wants.completes.steps

  ends-steps : (old : HandSeat) (node : Node) (parcel : Delivery) → Ends board t node parcel next old new → Steps board t.name next t.from new
  ends-steps old node parcel ends =
      bool-cases (names_error node parcel.completion)
      (λ is. (ends.named is).steps)
      (λ isnt. with-steps old _ _ (ends.made isnt))

  again-ends : (old : HandSeat) (node : Node) (child : ℕ) → GoesOnAgain board t node child next old new → Steps board t.name next t.from new
  again-ends old node child again =
      some-cases again.kept
      (λ parcel is. ends-steps again.middle node parcel (again.ends parcel is))
      (λ none. again-steps board t child next again.middle new (again.starts none))

  pub goes-steps : (old : HandSeat) (node : Node) (child : ℕ) → GoesOn board t node child next old new → Steps board t.name next t.from new
  goes-steps old node child goes =
      some-cases goes.answer
      (λ parcel is. ends-steps goes.middle node parcel (goes.ends parcel is))
      (λ none. again-ends goes.middle node child (goes.again none))

  pub answer-steps : (old : HandSeat) (query : Query) → Answers board t query next old new → Steps board t.name next t.from new
  answer-steps old Stop answers = with-steps answers.middle _ _ answers.makes
  answer-steps old Record answers = with-steps old _ _ answers

  module _ (child : ℕ) where
    reads-steps : (old : HandSeat) → ReadsTop board t child next old new → Steps board t.name next t.from new
    reads-steps old reads =
        bool-cases reads.begun (λ is. (reads.has is).steps) (λ isnt. top-steps board t next reads.middle new child (reads.has_not isnt))

    rests-steps : (old : HandSeat) → RestsAgain board t child next old new → Steps board t.name next t.from new
    rests-steps old rests =
        some-cases rests.kept (λ parcel is. (rests.leaves parcel is).steps) (λ none. reads-steps rests.middle (rests.reads none))

    pub receives-steps : (old : HandSeat) → Receives board t child next old new → Steps board t.name next t.from new
    receives-steps old receives =
        some-cases receives.answer (λ parcel is. (receives.leaves parcel is).steps) (λ none. rests-steps receives.middle (receives.again none))
