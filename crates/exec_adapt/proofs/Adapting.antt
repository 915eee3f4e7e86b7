-- How the step of an adaptor goes on from what lay in the homes.
use Rattle.std.specs.Prelude.{Contains, IfSome}
use Rattle.std.proofs.Common.{◌≡◌, ℕ, Bool, true, false, List, [], ◌∷◌, Option, Some, None, refl, sym, ap, ◌∙◌, subst, arith}
use Rattle.life_rules.specs.declared.event.Name.{Name}
use Rattle.node_tree.specs.Tree.{is_root}
use Rattle.plan_rules.specs.declared.node.Node.{Node}
use Rattle.plan_rules.specs.declared.node.Node.TheVariants.{Then, UponError, UponStopped, StoppedAsOptional, StoppedAsError}
use Rattle.plan_shape.specs.Blueprint.{Blueprint}
use Rattle.table_steps.specs.Views.{Board}
use Rattle.table_steps.specs.Readings.{KnowsIdle}
use Rattle.home_items.specs.declared.entry.Entry.{Entry}
use Rattle.home_items.specs.declared.item.Item.{Item}
use Rattle.home_items.specs.declared.item.State.{State}
use Rattle.home_items.specs.declared.item.State.TheVariants.{Start as Begins}
use Rattle.home_items.specs.Below.{run_below, asked_below}
use Rattle.home_items.specs.Bounds.{least_of, least_at_rest}
use Rattle.home_items.specs.Contents.{Start, Rest, Done}
use Rattle.home_items.specs.Entries.{asked_of}
use Rattle.home_items.specs.Fits.{IsItemOf}
use Rattle.home_items.specs.Items.{is_start, saw_in, state_of}
use Rattle.home_items.specs.Parcels.{Delivery}
use Rattle.exec_recv.specs.Seats.{HandSeat}
use Rattle.exec_recv.specs.Sites.{node_at, MayStep}
use Rattle.exec_recv.specs.Steppable.{CanStep}
use Rattle.start_laws.specs.Nodes.{IsStartOf, plain_children}
use Rattle.start_laws.proofs.Bounding.{few-begun}
use Rattle.start_laws.proofs.Pairs.{none-some, below-plain}
use Rattle.step_parts.specs.Heard.{MaySee}
use Rattle.step_parts.specs.Midway.{Ready}
use Rattle.step_parts.specs.Starts.{RunsBelow, asked_for_child, MayRun}
use Rattle.step_parts.specs.Stepping.{Stepping}
use Rattle.step_parts.specs.Takes.{HasParcel, IsOnlyChild, IsOpen, IsTaken, TakesBack, TakesKept, TakesOne, TakesState}
use Rattle.step_parts.proofs.Reading.{begun-idle}
use Rattle.step_parts.proofs.Took.{taken-inner, taken-of}
use Rattle.exec_adapt.specs.Ends.{MayGoOn, MayGoOnAgain, MayPass}
use Rattle.exec_adapt.specs.Kinds.{IsAdaptor, adapted}
use Rattle.exec_adapt.proofs.Places.{adaptor-is, adaptor-only, adaptor-one, adaptor-runs, adaptor-plain}
use Rattle.exec_adapt.proofs.Rested.{kept-taken, kept-has}

-- a rest of an adaptor that keeps a parcel has begun a child
keeps-one : (node : Node) → IsAdaptor node → (parcel : Delivery) → least_at_rest (Some node) (Some parcel) ≡ 1
keeps-one (Then x job) is parcel = refl
keeps-one (UponError x job) is parcel = refl
keeps-one (UponStopped x job) is parcel = refl
keeps-one (StoppedAsOptional x of) is parcel = refl
keeps-one (StoppedAsError x name) is parcel = refl
keeps-one node is parcel = absurd is

-- its child has of `asked` what it has
asked-same : (node : Node) → IsAdaptor node → (asked : Bool) → asked_below (Some node) asked ≡ asked
asked-same (Then x job) is asked = refl
asked-same (UponError x job) is asked = refl
asked-same (UponStopped x job) is asked = refl
asked-same (StoppedAsOptional x of) is asked = refl
asked-same (StoppedAsError x name) is asked = refl
asked-same node is asked = absurd is

-- its child, by its start
child-asked : (start : List Entry) (node : Node) → IsStartOf start node → IsAdaptor node → asked_of start ≡ asked_for_child start
child-asked [] node at is = none-some at.node_is
child-asked (p ∷ above) node at is = sym (ap (λ o. asked_below o p.asked) at.node_is ∙ asked-same node is p.asked)

child-runs : (start : List Entry) (node : Node) (child : ℕ) → IsStartOf start node → Contains (plain_children node) child →
    RunsBelow start child
child-runs [] node child at among = none-some at.node_is
child-runs (p ∷ above) node child at among =
    subst (λ o. Contains (run_below o p) child) (sym at.node_is) (below-plain node p child among)

-- An adaptor was taken up whose children's homes are empty: its child can be started.
pub adaptor-runs-child : (board : Board Blueprint) (t : Stepping) (node : Node) (child : ℕ) (hand : HandSeat) → IsTaken board t hand →
    node_at board t.name ≡ Some node → adapted node ≡ Some child → (asked : Bool) → asked ≡ asked_of t.start → MayRun board t child asked hand
adaptor-runs-child board t node child hand taken at adapts asked asked_is =
    let is = adaptor-is node child adapts in
    let of = taken-of board t hand taken node at in
    let none : least_of (Rest t.start None) ≡ 0 = few-begun.idle t.start node of.node_is (adaptor-plain node is) in
    record {
      taken = taken;
      few = subst (λ k. Ready board t.name t.start k hand.me) (sym none) taken.ready;
      least = omega (arith, none);
      runs = child-runs t.start node child of (adaptor-runs node child adapts);
      asked_is = asked_is ∙ child-asked t.start node of is;
    }

-- It was taken up.
module _ (board : Board Blueprint) (x : Name) (node : Node) (child : ℕ) (at : node_at board x ≡ Some node) (adapts : adapted node ≡ Some child)
    (taken : Stepping) (state : State) (old up : HandSeat) (takes : TakesState board x taken state old up) (may : MayStep board x old) where
  abbrev can : CanStep board x old.me
  can = may.can

  pub same-at : node_at board taken.name ≡ Some node
  same-at = ap (node_at board) takes.name_is ∙ at

  -- where it has begun nothing, it starts its child
  module _ (begins : state ≡ Begins) where
    first : is_start can.item ≡ true
    first = start-is can.item (sym (takes.state_is can) ∙ begins)
      where
        start-is : (item : Item) → state_of item ≡ Begins → is_start item ≡ true
        start-is (Start start) is = refl
        start-is (Rest start None) is = cc
        start-is (Rest start (Some parcel)) is = cc
        start-is (Done parcel) is = cc

    pub first-runs : (asked : Bool) → asked ≡ asked_of taken.start → MayRun board taken child asked up
    first-runs asked asked_is = adaptor-runs-child board taken node child up (takes.fresh can first) same-at adapts asked asked_is

    pub first-idle : KnowsIdle taken.name child up.me
    first-idle =
        subst (λ (y : Name). KnowsIdle y child up.me) (sym takes.name_is)
        (begun-idle board x child up.me ((adaptor-only board x node may.site at child adapts).is child refl) (takes.begun can first))

    pub first-inner : is_root board.frame.tree taken.name.node ≡ false
    first-inner = taken-inner board taken up (takes.fresh can first) node same-at

  -- else it goes on
  pub taken-goes : MayGoOn board taken node child up
  taken-goes = record {
    inside = can.item;
    kid = can.kid;
    rested = record {
      is = takes.opened can;
      of = subst (λ (y : Name). IsItemOf can.item y.node) (sym takes.name_is) (takes.of can);
      saw = subst (λ (y : Name). MaySee board y (saw_in can.item) up.me) (sym takes.name_is) (takes.saw can);
    };
    node_is = same-at;
    child_is = adapts;
  }

-- It had begun: it goes on with what the child completed with.
module _ (board : Board Blueprint) (t : Stepping) (node : Node) (child : ℕ) (old : HandSeat) (may : MayGoOn board t node child old) where
  pub goes-only : IsOnlyChild board t.name (Some child)
  goes-only = adaptor-only board t.name node may.rested.is.site may.node_is child may.child_is

  pub goes-one : TakesOne (node_at board t.name) (Some child)
  goes-one = adaptor-one board t.name node may.rested.is.site may.node_is child may.child_is

  pub goes-open : IsOpen board t old
  goes-open = record { inside = may.inside; kid = may.kid; is = may.rested.is }

  module _ (answer : Option Delivery) (new : HandSeat) (back : TakesBack board t child answer old new) where
    pub back-passes : (parcel : Delivery) → answer ≡ Some parcel → MayPass board t node parcel new
    back-passes parcel is = record {
      taken = back.taken;
      node_is = may.node_is;
      adaptor = adaptor-is node child may.child_is;
      has = subst (λ (o : Option Delivery). IfSome o (HasParcel board t new.me)) is back.parcel;
    }

    pub back-goes : MayGoOnAgain board t node child new
    back-goes = record {
      inside = may.inside;
      rested = record {
        is = back.own may.inside may.kid may.rested.is;
        of = may.rested.of;
        saw = λ silent. may.rested.saw (sym back.keeps.heard ∙ silent);
      };
      node_is = may.node_is;
      child_is = may.child_is;
    }

-- It had rested: it goes on with what it kept of its child, or its child can be started.
module _ (board : Board Blueprint) (t : Stepping) (node : Node) (child : ℕ) (old : HandSeat) (may : MayGoOnAgain board t node child old) (kept : Option Delivery)
    (new : HandSeat) (takes : TakesKept board t kept old new) where
  abbrev is-taken : IsTaken board t new
  is-taken = kept-taken board t may.inside old new may.rested kept takes

  pub kept-passes : (parcel : Delivery) → kept ≡ Some parcel → MayPass board t node parcel new
  kept-passes parcel is =
      let adaptor = adaptor-is node child may.child_is in
      record {
        taken = is-taken;
        node_is = may.node_is;
        adaptor = adaptor;
        has = kept-has board t may.inside old new may.rested kept takes parcel is
            (ap (λ o. least_at_rest o (Some parcel)) (taken-of board t new is-taken node may.node_is).node_is ∙ keeps-one node adaptor parcel);
      }

  pub kept-runs : (asked : Bool) → asked ≡ asked_of t.start → MayRun board t child asked new
  kept-runs asked asked_is = adaptor-runs-child board t node child new is-taken may.node_is may.child_is asked asked_is

  pub kept-inner : is_root board.frame.tree t.name.node ≡ false
  kept-inner = taken-inner board t new is-taken node may.node_is
