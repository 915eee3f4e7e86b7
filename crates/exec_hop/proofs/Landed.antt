-- How a node that hops or shelters goes on from what it has taken up.
use Rattle.std.specs.Prelude.{Contains, MatchOption, IfSome}
use Rattle.std.proofs.Common.{◌≡◌, ◌≢◌, ℕ, Bool, true, false, ◌||◌, List, [], ◌∷◌, Option, Some, None, refl, sym, ap, ◌∙◌, subst, arith}
use Rattle.exec_value.specs.declared.outcome.Completion.{Completion}
use Rattle.exec_value.specs.declared.outcome.Completion.TheVariants.{Value, NoMemory}
use Rattle.node_tree.specs.declared.context.Context.{Context}
use Rattle.plan_rules.specs.declared.node.Node.{Node}
use Rattle.plan_rules.specs.declared.node.Node.TheVariants.{Schedule}
use Rattle.plan_rules.specs.Settle.{unless_asked}
use Rattle.plan_shape.specs.Blueprint.{Blueprint}
use Rattle.table_steps.specs.Views.{Board}
use Rattle.home_items.specs.declared.entry.Entry.{Entry}
use Rattle.home_items.specs.Contents.{Rest, Done}
use Rattle.home_items.specs.Below.{run_below, asked_below}
use Rattle.home_items.specs.Bounds.{least_of}
use Rattle.home_items.specs.Entries.{asked_of}
use Rattle.home_items.specs.Parcels.{Delivery, MayDeliver, parcel_with}
use Rattle.start_laws.specs.Leaves.{IsStoppable}
use Rattle.start_laws.specs.Nodes.{IsStartOf, plain_children, image_of, MayHaveSeen}
use Rattle.start_laws.proofs.Bounding.{few-begun}
use Rattle.start_laws.proofs.ImageCases.{images-allowed}
use Rattle.start_laws.proofs.LeafCases.{leaves-allowed}
use Rattle.start_laws.proofs.Pairs.{none-some, below-plain}
use Rattle.exec_recv.specs.Seats.{HandSeat}
use Rattle.exec_recv.specs.Sites.{node_at}
use Rattle.step_parts.specs.Completes.{MayEnd, MayStop}
use Rattle.step_parts.specs.Heard.{MaySee}
use Rattle.step_parts.specs.Starts.{RunsBelow, asked_for_child, MayRun}
use Rattle.step_parts.specs.Stepping.{Stepping}
use Rattle.step_parts.specs.Takes.{HasParcel, IsTaken}
use Rattle.step_parts.proofs.Completed.{or-left}
use Rattle.step_parts.proofs.Emptied.{awaits-not-all}
use Rattle.step_parts.proofs.Frames.{ready-less}
use Rattle.step_parts.proofs.Took.{taken-inner, taken-of, taken-leaves}
use Rattle.exec_hop.specs.Ends.{MayHop, MayPass, MayLand, MayStart}
use Rattle.exec_hop.proofs.Places.{HopsOrShelters, hop_child, hop-awaits, hop-runs, hop-image, hop-makes}

module _ (board : Board Blueprint) (t : Stepping) (hand : HandSeat) (taken : IsTaken board t hand) (node : Node) (at : node_at board t.name ≡ Some node)
    (is : HopsOrShelters node) where
  of : IsStartOf t.start node
  of = taken-of board t hand taken node at

  -- where a request was found, a hop may complete stopped
  pub hop-stops : IsStoppable node → (saw : Bool) → MaySee board t.name saw hand.me → (asked_of t.start || saw) ≡ true → MayStop board t saw hand
  hop-stops stops saw sees found =
      record { taken = taken; kind = subst (λ (o : Option Node). MatchOption o ⊥ IsStoppable) (sym at) stops; asks = found; sees = sees }

  -- it may hop with its start alone, or with its child's parcel
  pub hop-hops : IsStoppable node → (kept : Option Delivery) → IfSome kept (HasParcel board t hand.me) → MayHop board t kept hand
  hop-hops stops kept has = record {
    leaves = taken-leaves board t hand taken node at (hop-awaits node is) kept has;
    stops = λ asked. hop-stops stops false (λ none. refl) (ap (λ b. b || false) asked);
  }

  module _ (child : ℕ) (names : hop_child node ≡ Some child) where
    -- it may complete as its child did
    pub hop-passes : (parcel : Delivery) → HasParcel board t hand.me parcel →
        image_of node (asked_of t.start) parcel.completion ≡ parcel.completion → MayHaveSeen node parcel.saw → MayPass board t parcel hand
    hop-passes parcel has image seen = record {
      taken = taken;
      inner = taken-inner board t hand taken node at;
      allowed = subst (λ (c : Completion). MayDeliver t.start parcel.saw c) image
          (images-allowed t.start node of parcel has.from.delivers has.from.child (hop-makes node is child names parcel.completion) seen);
      few = ready-less board t.name t.start hand.me 1 (least_of (Done (parcel_with t.start parcel.completion parcel.saw)))
          (few-begun.one (parcel_with t.start parcel.completion parcel.saw) node of.node_is (hop-awaits node is)) has.ready;
      sees = has.from.saw;
      small = has.from.small;
    }

    -- and so a hop may, where no request was found
    pub hop-lands : (parcel : Delivery) → HasParcel board t hand.me parcel → IsStoppable node → MayHaveSeen node parcel.saw → (saw : Bool) →
        MaySee board t.name saw hand.me → MayLand board t parcel saw hand
    hop-lands parcel has stops seen saw sees = record {
      stops = hop-stops stops saw sees;
      passes = λ none.
          hop-passes parcel has
          (ap (λ b. image_of node b parcel.completion) (or-left (asked_of t.start) saw none) ∙ hop-image node is parcel.completion) seen;
    }

    child-asked : (s : List Entry) → IsStartOf s node → asked_for_child s ≡ asked_below (Some node) (asked_of s)
    child-asked [] here = none-some here.node_is
    child-asked (p ∷ above) here = ap (λ o. asked_below o p.asked) here.node_is

    child-runs : (s : List Entry) → IsStartOf s node → Contains (plain_children node) child → RunsBelow s child
    child-runs [] here among = none-some here.node_is
    child-runs (p ∷ above) here among =
        subst (λ o. Contains (run_below o p) child) (sym here.node_is) (below-plain node p child among)

    no-child : least_of (Rest t.start None) ≡ 0
    no-child = few-begun.idle t.start node of.node_is (awaits-not-all node (hop-awaits node is))

    -- its child may be started
    pub hop-runs-child : (asked : Bool) → asked ≡ asked_below (Some node) (asked_of t.start) → MayRun board t child asked hand
    hop-runs-child asked asked_is = record {
      taken = taken;
      few = let none = no-child in
          ready-less board t.name t.start hand.me 0 (least_of (Rest t.start None)) (omega (arith, none)) taken.ready;
      least = let none = no-child in omega (arith, none);
      runs = child-runs t.start of (hop-runs node is child names);
      asked_is = asked_is ∙ sym (child-asked t.start of);
    }

    -- or a hop that read a request may complete stopped
    pub hop-starts : IsStoppable node → asked_of t.start ≡ asked_below (Some node) (asked_of t.start) → (saw : Bool) →
        MaySee board t.name saw hand.me → MayStart board t child saw hand
    hop-starts stops asked saw sees = record {
      stops = hop-stops stops saw sees;
      inner = taken-inner board t hand taken node at;
      runs = hop-runs-child (asked_of t.start) asked;
    }

-- What a `schedule` completes with, when it is taken.
module _ (board : Board Blueprint) (t : Stepping) (hand : HandSeat) (taken : IsTaken board t hand) (on : Context)
    (at : node_at board t.name ≡ Some (Schedule on)) (saw : Bool) (sees : MaySee board t.name saw hand.me) (done : Completion)
    (made : done ≡ unless_asked (asked_of t.start || saw) (Value [])) where
  not-memory : (found : Bool) → unless_asked found (Value []) ≢ NoMemory
  not-memory true e = cc
  not-memory false e = cc

  pub schedule-ends : MayEnd board t done saw hand
  schedule-ends =
      let here = taken-of board t hand taken (Schedule on) at in
      let own : Delivery = parcel_with t.start done saw in
      let none : least_of (Done own) ≡ 0 = few-begun.leaf own (Schedule on) here.node_is tt in
      record {
        taken = taken;
        inner = taken-inner board t hand taken (Schedule on) at;
        allowed = subst (λ (c : Completion). MayDeliver t.start saw c) (sym made) (leaves-allowed.seen t.start (Schedule on) here tt saw);
        few = ready-less board t.name t.start hand.me 0 (least_of (Done own)) (omega (arith, none)) taken.ready;
        sees = sees;
        small = λ small want. not-memory (asked_of t.start || saw) (sym made ∙ want);
      }
