-- What a hand may do with an `ahead` that it has at hand.
use Rattle.std.specs.Prelude.{Contains, IfSome, is_some}
use Rattle.std.proofs.Common.{◌≡◌, ℕ, Bool, false, List, [], ◌∷◌, Option, Some, None, refl, sym, ap, ◌∙◌, subst, arith}
use Rattle.std.proofs.lemmas.Bool.{false≢true}
use Rattle.exec_value.specs.declared.outcome.Completion.{Completion}
use Rattle.exec_value.specs.declared.outcome.Completion.TheVariants.{Value, Error, Stopped, NoMemory}
use Rattle.life_rules.specs.declared.event.Name.{Name}
use Rattle.node_tree.specs.Tree.{is_root}
use Rattle.plan_rules.specs.declared.node.Node.{Node}
use Rattle.plan_rules.specs.declared.node.Node.TheVariants.{Ahead}
use Rattle.plan_rules.specs.Images.{value_data}
use Rattle.plan_shape.specs.Blueprint.{Blueprint}
use Rattle.plan_kinds.specs.Small.{IsSmall}
use Rattle.table_steps.specs.Views.{Board, Stays}
use Rattle.op_slot.proofs.Staying.{stays-on}
use Rattle.home_items.specs.declared.entry.Entry.{Entry}
use Rattle.home_items.specs.Contents.{Rest, Done}
use Rattle.home_items.specs.Below.{run_below, asked_below}
use Rattle.home_items.specs.Bounds.{least_of}
use Rattle.home_items.specs.Entries.{plan_of, node_of, args_of, carried_of, carried_by, asked_of}
use Rattle.home_items.specs.Parcels.{Delivery, MayDeliver, parcel_with}
use Rattle.exec_recv.specs.Asides.{KeepsAside}
use Rattle.exec_recv.specs.declared.next.Next.{Next}
use Rattle.exec_recv.proofs.Asiding.{aside-on}
use Rattle.exec_recv.specs.Seats.{HandSeat}
use Rattle.exec_recv.specs.Sites.{node_at, Steps}
use Rattle.start_laws.specs.Nodes.{IsStartOf, MakesImage}
use Rattle.start_laws.proofs.Bounding.{few-begun}
use Rattle.start_laws.proofs.ImageCases.{images-allowed}
use Rattle.start_laws.proofs.Pairs.{none-some, below-plain}
use Rattle.step_parts.specs.Completes.{MayEnd}
use Rattle.step_parts.specs.Heard.{MaySee}
use Rattle.step_parts.specs.Leaves.{MayLeave}
use Rattle.step_parts.specs.Midway.{Ready}
use Rattle.step_parts.specs.Starts.{RunsBelow, asked_for_child, MayRun}
use Rattle.step_parts.specs.Stepping.{Stepping}
use Rattle.step_parts.specs.Takes.{IsTaken, Keeps}
use Rattle.step_parts.proofs.Ended.{taken-on, parcels-on}
use Rattle.step_parts.proofs.Frames.{ready-less}
use Rattle.step_parts.proofs.Took.{taken-inner, taken-of, taken-leaves}
use Rattle.step_parts.proofs.Wanted.{want-ends}
use Rattle.node_walks.specs.Resting.{IsAtRest}
use Rattle.node_walks.specs.Stepped.{WasStepped}
use Rattle.serve_ahead.specs.declared.taking.AheadAt.{AheadAt}
use Rattle.serve_ahead.specs.Ends.{RestsAfter}
use Rattle.serve_ahead.specs.Takes.{HasAtHand}

-- an `ahead` runs with its arguments
pub carries-args : (start : List Entry) (first second : ℕ) → IsStartOf start (Ahead first second) → carried_of start ≡ args_of start
carries-args [] first second is = none-some is.node_is
carries-args (e ∷ above) first second is = ap (λ (o : Option Node). carried_by o e) is.node_is

module _ (board : Board Blueprint) (at : AheadAt) (t : Stepping) (kept : Option Delivery) (hand : HandSeat) (has : HasAtHand board at t kept hand) where
  abbrev node : Node
  node = Ahead at.first at.second

  stands : node_at board t.name ≡ Some node
  stands = ap (node_at board) has.name_is ∙ has.ahead

  pub of : IsStartOf t.start node
  of = taken-of board t hand has.taken node stands

  pub inner : is_root board.frame.tree t.name.node ≡ false
  inner = taken-inner board t hand has.taken node stands

  -- such a plan isn't small
  pub large : ¬ IsSmall (plan_of t.start)
  large small = small.nodes_are (node_of t.start) node of.node_is

  -- after the step that began where it was taken up
  pub has-stepped : (new : HandSeat) (next : Next) → Steps board t.name next t.from new → WasStepped board at.name next new.me
  has-stepped new next steps =
      subst (λ (x : Name). WasStepped board x next new.me) has.name_is
      (record { before = t.from.me; can = has.could; stepped = steps.stepped })

  -- after a call that keeps it
  pub has-still : (new : HandSeat) → Keeps board t hand new → HasAtHand board at t kept new
  has-still new keeps =
      record {
        name_is = has.name_is;
        ahead = has.ahead;
        could = has.could;
        taken = taken-on board t hand new keeps has.taken;
        parcel = parcels-on board t hand new keeps kept has.parcel;
      }

  -- it may be parked again, and complete with want of memory
  pub may-leave : MayLeave board t kept hand
  may-leave = taken-leaves board t hand has.taken node stands tt kept has.parcel

  pub may-want : MayEnd board t NoMemory false hand
  may-want = want-ends board t hand has.taken inner large

  -- its second child may be started
  no-child : least_of (Rest t.start None) ≡ 0
  no-child = few-begun.idle t.start node of.node_is refl

  second-asked : (s : List Entry) → IsStartOf s node → asked_for_child s ≡ asked_of s
  second-asked [] is = none-some is.node_is
  second-asked (p ∷ above) is = ap (λ o. asked_below o p.asked) is.node_is

  second-runs : (s : List Entry) → IsStartOf s node → RunsBelow s at.second
  second-runs [] is = none-some is.node_is
  second-runs (p ∷ above) is =
      subst (λ o. Contains (run_below o p) at.second) (sym is.node_is) (below-plain node p at.second (0, omega arith, refl))

  pub may-run : (asked : Bool) → asked ≡ asked_of t.start → MayRun board t at.second asked hand
  may-run asked is =
      record {
        taken = has.taken;
        few = subst (λ n. Ready board t.name t.start n hand.me) (sym no-child) has.taken.ready;
        least = let none = no-child in omega (arith, none);
        runs = second-runs t.start of;
        asked_is = is ∙ sym (second-asked t.start of);
      }

-- a hand that went on after its step rests since then
pub rests-since : (board : Board Blueprint) (t : Stepping) (next : Next) (ended : HandSeat) → Steps board t.name next t.from ended →
    (new : HandSeat) → Stays board ended new → IsAtRest new.me.0 → KeepsAside ended.me new.me → RestsAfter board t.from new
rests-since board t next ended steps new stays rests aside =
    record {
      stays = stays-on board t.from ended new steps.stays stays;
      rests = rests;
      aside = aside-on t.from.me ended.me new.me steps.stepped.aside aside;
    }

-- a completion without a value passes
pub no-value : (first second : ℕ) (done : Completion) → is_some (value_data done) ≡ false → MakesImage (Ahead first second) done
no-value first second (Value values) none = absurd (false≢true (sym none))
no-value first second (Error name) none = tt
no-value first second Stopped none = tt
no-value first second NoMemory none = tt

-- It has what its second child completed with.
module _ (board : Board Blueprint) (at : AheadAt) (t : Stepping) (parcel : Delivery) (hand : HandSeat) (has : HasAtHand board at t (Some parcel) hand) where
  -- it may complete with what is allowed, where that saw nothing that the hand hasn't heard of
  pub may-end : (done : Completion) (saw : Bool) → MayDeliver t.start saw done → MaySee board t.name saw hand.me → MayEnd board t done saw hand
  may-end done saw allowed sees =
      record {
        taken = has.taken;
        inner = inner board at t (Some parcel) hand has;
        allowed = allowed;
        few = ready-less board t.name t.start hand.me 1 (least_of (Done (parcel_with t.start done saw)))
            (few-begun.one (parcel_with t.start done saw) (Ahead at.first at.second) (of board at t (Some parcel) hand has).node_is tt) has.parcel.ready;
        sees = sees;
        small = λ small. absurd (large board at t (Some parcel) hand has small);
      }

  -- with the failure of its second child
  pub may-fail : is_some (value_data parcel.completion) ≡ false → MayDeliver t.start parcel.saw parcel.completion
  may-fail none =
      images-allowed t.start (Ahead at.first at.second) (of board at t (Some parcel) hand has) parcel has.parcel.from.delivers has.parcel.from.child
      (no-value at.first at.second parcel.completion none) tt

  -- the hand has it without that, too
  pub has-bare : HasAtHand board at t None hand
  has-bare = record { name_is = has.name_is; ahead = has.ahead; could = has.could; taken = has.taken; parcel = tt }
