-- A node that hops or shelters was taken up.
use Rattle.std.proofs.Common.{◌≡◌, ℕ, true, false, Option, Some, None, refl, sym, ap, ◌∙◌, subst}
use Rattle.life_rules.specs.declared.event.Name.{Name}
use Rattle.node_tree.specs.declared.context.Context.{Context}
use Rattle.plan_rules.specs.declared.node.Node.{Node}
use Rattle.plan_rules.specs.declared.node.Node.TheVariants.{Schedule, ContinuesOn, Unstoppable}
use Rattle.plan_shape.specs.Blueprint.{Blueprint}
use Rattle.table_steps.specs.Readings.{KnowsIdle}
use Rattle.table_steps.specs.Views.{Board}
use Rattle.home_items.specs.declared.item.State.{State}
use Rattle.home_items.specs.declared.item.State.TheVariants.{Start as Begins}
use Rattle.home_items.specs.Fits.{IsItemOf}
use Rattle.home_items.specs.Items.{is_start}
use Rattle.home_items.specs.Parcels.{Delivery}
use Rattle.home_items.proofs.States.{state-start}
use Rattle.exec_recv.specs.declared.next.Next.{Next}
use Rattle.exec_recv.specs.Seats.{HandSeat}
use Rattle.exec_recv.specs.Sites.{MayStep, Steps, node_at, plan_at}
use Rattle.step_parts.specs.Heard.{has_heard}
use Rattle.step_parts.specs.Stepping.{Stepping}
use Rattle.step_parts.specs.Takes.{IsFoundBelow, IsOnlyChild, IsOpen, IsTaken, TakesBack, TakesBegun, TakesOne, TakesState}
use Rattle.step_parts.proofs.Ended.{open-none, open-taken, opens}
use Rattle.step_parts.proofs.Places.{node-shown, source-none}
use Rattle.step_parts.proofs.Reading.{begun-idle}
use Rattle.exec_hop.specs.Ends.{MayFinish, MayGoOn}
use Rattle.exec_hop.specs.Kinds.{IsHop}
use Rattle.exec_hop.proofs.Places.{HopsOrShelters, hop_child, hop-awaits, hop-only, hop-runs}

-- what ends so began with the node and the hand of which this is said
steps-from : (board : Board Blueprint) (t : Stepping) (x : Name) (old new : HandSeat) (next : Next) → t.name ≡ x → t.from ≡ old →
    Steps board t.name next t.from new → Steps board x next old new
steps-from board t x old new next name_is from_is steps =
    subst (λ (y : Name). Steps board y next old new) name_is (subst (λ (h : HandSeat). Steps board t.name next h new) from_is steps)

none-there : (k : ℕ) → None ≡ Some k → ⊥
none-there k e = cc

module _ (board : Board Blueprint) (x : Name) (node : Node) (at : node_at board x ≡ Some node) (is : HopsOrShelters node) (old up : HandSeat)
    (may : MayStep board x old) (t : Stepping) (state : State) (takes : TakesState board x t state old up) where
  pub at-taken : node_at board t.name ≡ Some node
  at-taken = ap (node_at board) takes.name_is ∙ at

  only : IsOnlyChild board t.name (hop_child node)
  only = hop-only board t.name node may.site at-taken is

  pub steps-here : (next : Next) (new : HandSeat) → Steps board t.name next t.from new → Steps board x next old new
  steps-here next new steps = steps-from board t x old new next takes.name_is takes.from_is steps

  -- it has begun nothing yet
  module _ (begins : state ≡ Begins) where
    first : is_start may.can.item ≡ true
    first = state-start may.can.item (sym begins ∙ takes.state_is may.can)

    pub new-taken : IsTaken board t up
    new-taken = takes.fresh may.can first

    pub new-idle : (child : ℕ) → hop_child node ≡ Some child → KnowsIdle t.name child up.me
    new-idle child names =
        subst (λ (y : Name). KnowsIdle y child up.me) (sym takes.name_is)
        (begun-idle board x child up.me ((hop-only board x node may.site at is).is child names) (takes.begun may.can first))

  -- a node without children, which has begun
  pub childless-taken : hop_child node ≡ None → IsTaken board t up
  childless-taken none =
      open-taken board t may.can.item up
      (open-none board t may.can.item may.can.kid up (takes.opened may.can)
      (λ k child. absurd (none-there k (sym none ∙ only.only k child))))

  pub up-open : IsOpen board t up
  up-open = opens board t may.can.item may.can.kid up (takes.opened may.can)

  module _ (child : ℕ) (names : hop_child node ≡ Some child) where
    pub up-only : IsOnlyChild board t.name (Some child)
    up-only = subst (λ (o : Option ℕ). IsOnlyChild board t.name o) names only

    pub up-one : TakesOne (node_at board t.name) (Some child)
    up-one = subst (λ (o : Option Node). TakesOne o (Some child)) (sym at-taken) (hop-awaits node is, hop-runs node is child names)

  -- it had begun, and what its child completed with was taken
  pub begun-so : (state ≡ Begins → ⊥) → (child : ℕ) (answer : Option Delivery) (middle : HandSeat) → TakesBack board t child answer up middle →
      TakesBegun board x child t answer old middle
  begun-so other child answer middle back = record { state = state; up = up; takes = takes; begun = other; back = back }

pub finishes : (board : Board Blueprint) (t : Stepping) (on : Context) (hand : HandSeat) → IsTaken board t hand → node_at board t.name ≡ Some (Schedule on) →
    MayFinish board t hand
finishes board t on hand taken at = record { taken = taken; kind = subst IsHop (sym at) tt }

pub schedule-of : (o : Option Node) → IsHop o → (on : Context) × (o ≡ Some (Schedule on))
schedule-of None kind = absurd kind
schedule-of (Some (Schedule on)) kind = (on, refl)
schedule-of (Some node) kind = absurd kind

-- A `continues_on` whose child hasn't completed since it rested goes on.
pub goes-on : (board : Board Blueprint) (x : Name) (child : ℕ) (on : Context) → node_at board x ≡ Some (ContinuesOn child on) → (old up middle : HandSeat) →
    (may : MayStep board x old) (t : Stepping) (state : State) (takes : TakesState board x t state old up) (answer : Option Delivery) →
    TakesBack board t child answer up middle → MayGoOn board t child middle
goes-on board x child on at old up middle may t state takes answer back =
    record {
      on = on;
      node = ap (node_at board) takes.name_is ∙ at;
      inside = may.can.item;
      is = back.own may.can.item may.can.kid (takes.opened may.can);
      of = subst (λ (y : Name). IsItemOf may.can.item y.node) (sym takes.name_is) (takes.of may.can);
      saw = λ none. takes.saw may.can (ap (λ (y : Name). has_heard board y up.me) (sym takes.name_is) ∙ sym back.keeps.heard ∙ none);
    }

-- The child of an `unstoppable` saw no request.
pub sheltered : (board : Board Blueprint) (t : Stepping) (child : ℕ) (hand : HandSeat) → IsTaken board t hand →
    node_at board t.name ≡ Some (Unstoppable child) → (parcel : Delivery) → IsFoundBelow board t child hand.me parcel → parcel.saw ≡ false
sheltered board t child hand taken at parcel found =
    let over = taken.site.over in
    (found.shelters (source-none board (plan_at board) t.name (Unstoppable child) over at refl)
    (node-shown board (plan_at board) t.name (Unstoppable child) over at).unstoppable).saw
