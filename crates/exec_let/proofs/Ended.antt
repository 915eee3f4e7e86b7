-- What a let may complete with.
use Rattle.std.specs.Prelude.{Contains}
use Rattle.std.proofs.Common.{◌≡◌, ◌≢◌, inl, inr, ℕ, Bool, true, false, List, [], ◌∷◌, Some, None, Ok, Err, refl, sym, ap, ◌∙◌, subst, arith}
use Rattle.std.proofs.lemmas.Bool.{both_ways}
use Rattle.exec_value.specs.declared.data.Datum.{Datum}
use Rattle.exec_value.specs.declared.kinds.Kind.TheVariants.{Int as IntKind}
use Rattle.exec_value.specs.declared.outcome.Completion.{Completion}
use Rattle.exec_value.specs.declared.outcome.Completion.TheVariants.{Value, Error, Stopped, NoMemory}
use Rattle.exec_job.specs.Answer.{Answer as JobAnswer, ending}
use Rattle.exec_job.specs.Apply.{apply_of}
use Rattle.plan_rules.specs.declared.node.Node.{Node}
use Rattle.plan_rules.specs.declared.node.Node.TheVariants.{LetValue, LetError, LetStopped}
use Rattle.plan_rules.specs.Images.{applied}
use Rattle.plan_rules.specs.Seen.{seen_state}
use Rattle.plan_shape.specs.Blueprint.{Blueprint}
use Rattle.plan_kinds.specs.Runs.{bodies_of}
use Rattle.plan_kinds.specs.Reached.{Reaches}
use Rattle.plan_kinds.specs.Shapes.{Shape, HasShape}
use Rattle.plan_kinds.specs.Signatures.{sig_of, Fits}
use Rattle.plan_kinds.specs.Small.{IsSmallShape, IsSmall}
use Rattle.plan_kinds.proofs.Jobs.{one-int}
use Rattle.plan_kinds.proofs.Kept.{kinds-kept}
use Rattle.plan_kinds.proofs.Plans.{plans-built}
use Rattle.plan_kinds.specs.Runnable.{IsRunnable}
use Rattle.table_steps.specs.Views.{Board}
use Rattle.node_images.specs.Picks.{picked_body}
use Rattle.home_items.specs.declared.entry.Entry.{Entry}
use Rattle.home_items.specs.Contents.{Rest, Done}
use Rattle.home_items.specs.Below.{run_below, asked_below}
use Rattle.home_items.specs.Bounds.{least_of}
use Rattle.home_items.specs.Entries.{plan_of, asked_of}
use Rattle.home_items.specs.Fits.{IsChildOf}
use Rattle.home_items.specs.Parcels.{Delivery, MayDeliver, parcel_with}
use Rattle.home_items.specs.Starts.{IsStart}
use Rattle.exec_recv.specs.Seats.{HandSeat}
use Rattle.exec_recv.specs.Sites.{node_at}
use Rattle.start_laws.specs.Lets.{channel_of, pick_of}
use Rattle.start_laws.specs.Nodes.{IsStartOf, image_of, PicksNone, MakesImage, MayHaveSeen}
use Rattle.start_laws.proofs.Bodies.{bodies-allowed}
use Rattle.start_laws.proofs.Bounding.{few-begun}
use Rattle.start_laws.proofs.ImageCases.{images-allowed}
use Rattle.start_laws.proofs.Pairs.{none-some, below-plain}
use Rattle.step_parts.specs.Completes.{MayEnd}
use Rattle.step_parts.specs.Heard.{has_heard, Looked, MaySee}
use Rattle.step_parts.specs.Midway.{Ready}
use Rattle.step_parts.specs.Starts.{RunsBelow, asked_for_child, MayRun}
use Rattle.step_parts.specs.Stepping.{Stepping}
use Rattle.step_parts.specs.Takes.{IsTaken, Keeps}
use Rattle.step_parts.proofs.Asked.{look-sees}
use Rattle.step_parts.proofs.Ended.{taken-on, ready-on, unheard-before}
use Rattle.step_parts.proofs.Frames.{ready-less}
use Rattle.step_parts.proofs.Took.{taken-inner, taken-of}
use Rattle.exec_let.specs.Ends.{MayGoOn, MayEndAsBody}
use Rattle.exec_let.specs.Kinds.{IsLet, let_child, is_small}
use Rattle.exec_let.specs.declared.picking.Picked.{Picked}
use Rattle.exec_let.specs.declared.picking.Picked.TheVariants.{Answer, Passes}
use Rattle.exec_let.specs.Picks.{answer_from, picked_for}
use Rattle.exec_let.proofs.Going.{picks-answer, picks-passes}
use Rattle.exec_let.proofs.Places.{let-plain, let-awaits, let-runs}
use Rattle.exec_let.proofs.Reading.{look-hears}

-- a completion off the let's channel passes
let-passes : (node : Node) → IsLet node → (done : Completion) → channel_of node done ≡ None → (asked : Bool) → image_of node asked done ≡ done
let-passes (LetValue x pick xs) is done off asked = ap (λ o. applied pick o done) off
let-passes (LetError x pick xs) is done off asked = ap (λ o. applied pick o done) off
let-passes (LetStopped x pick xs) is done off asked = ap (λ o. applied pick o done) off
let-passes node is done off asked = absurd is

let-makes : (node : Node) → IsLet node → (done : Completion) → channel_of node done ≡ None → MakesImage node done
let-makes (LetValue x pick xs) is done off = subst (λ o. PicksNone o pick xs) (sym off) tt
let-makes (LetError x pick xs) is done off = subst (λ o. PicksNone o pick xs) (sym off) tt
let-makes (LetStopped x pick xs) is done off = subst (λ o. PicksNone o pick xs) (sym off) tt
let-makes node is done off = absurd is

-- of one on it the pick's answer is made, where that names no body
let-answers : (node : Node) → IsLet node → (done : Completion) (values : List Datum) → channel_of node done ≡ Some values → (asked : Bool) →
    image_of node asked done ≡ ending (apply_of (pick_of node) values)
let-answers (LetValue x pick xs) is done values on asked = ap (λ o. applied pick o done) on
let-answers (LetError x pick xs) is done values on asked = ap (λ o. applied pick o done) on
let-answers (LetStopped x pick xs) is done values on asked = ap (λ o. applied pick o done) on
let-answers node is done values on asked = absurd is

let-names_none : (node : Node) → IsLet node → (done : Completion) (values : List Datum) → channel_of node done ≡ Some values →
    picked_body (ending (apply_of (pick_of node) values)) (bodies_of node) ≡ None → MakesImage node done
let-names_none (LetValue x pick xs) is done values on none = subst (λ o. PicksNone o pick xs) (sym on) none
let-names_none (LetError x pick xs) is done values on none = subst (λ o. PicksNone o pick xs) (sym on) none
let-names_none (LetStopped x pick xs) is done values on none = subst (λ o. PicksNone o pick xs) (sym on) none
let-names_none node is done values on none = absurd is

let-sees : (node : Node) → IsLet node → (saw : Bool) → MayHaveSeen node saw
let-sees (LetValue x pick xs) is saw = tt
let-sees (LetError x pick xs) is saw = tt
let-sees (LetStopped x pick xs) is saw = tt
let-sees node is saw = absurd is

answer-memory : (answer : JobAnswer) → ending answer ≢ NoMemory
answer-memory (Ok values) e = cc
answer-memory (Err name) e = cc

-- What may be delivered may be completed with.
module _ (board : Board Blueprint) (t : Stepping) (hand : HandSeat) (taken : IsTaken board t hand) (node : Node)
    (at : node_at board t.name ≡ Some node) (is : IsLet node) (ready : Ready board t.name t.start 1 hand.me) where
  let-ends : (done : Completion) (saw : Bool) → MaySee board t.name saw hand.me → (IsSmall (plan_of t.start) → done ≢ NoMemory) →
      MayDeliver t.start saw done → MayEnd board t done saw hand
  let-ends done saw sees small may =
      let of = taken-of board t hand taken node at in
      record {
        taken = taken;
        inner = taken-inner board t hand taken node at;
        allowed = may;
        few = ready-less board t.name t.start hand.me 1 (least_of (Done (parcel_with t.start done saw)))
            (few-begun.one (parcel_with t.start done saw) node of.node_is (let-awaits node is)) ready;
        sees = sees;
        small = small;
      }

-- The child has completed.
module _ (board : Board Blueprint) (t : Stepping) (node : Node) (parcel : Delivery) (hand : HandSeat) (may : MayGoOn board t node parcel hand) where
  of : IsStartOf t.start node
  of = taken-of board t hand may.taken node may.node_is

  image-allowed : MakesImage node parcel.completion → MayDeliver t.start parcel.saw (image_of node (asked_of t.start) parcel.completion)
  image-allowed makes =
      images-allowed t.start node of parcel may.has.from.delivers may.has.from.child makes (let-sees node may.is_let parcel.saw)

  -- off the let's channel
  pass-ends : channel_of node parcel.completion ≡ None → MayEnd board t parcel.completion parcel.saw hand
  pass-ends off =
      let-ends board t hand may.taken node may.node_is may.is_let may.has.ready parcel.completion parcel.saw may.has.from.saw may.has.from.small
      (subst (λ (c : Completion). MayDeliver t.start parcel.saw c) (let-passes node may.is_let parcel.completion off (asked_of t.start))
      (image-allowed (let-makes node may.is_let parcel.completion off)))

  -- on it, and the pick names no body
  answer-ends : (values : List Datum) → channel_of node parcel.completion ≡ Some values →
      picked_body (answer_from node values) (bodies_of node) ≡ None → MayEnd board t (answer_from node values) parcel.saw hand
  answer-ends values on none =
      let-ends board t hand may.taken node may.node_is may.is_let may.has.ready (answer_from node values) parcel.saw may.has.from.saw
      (λ small. answer-memory (apply_of (pick_of node) values))
      (subst (λ (c : Completion). MayDeliver t.start parcel.saw c) (let-answers node may.is_let parcel.completion values on (asked_of t.start))
      (image-allowed (let-names_none node may.is_let parcel.completion values on none)))

  -- by what the pick names
  module _ (picked : Picked) (picks : picked ≡ picked_for node (channel_of node parcel.completion)) (saw : Bool) (same : saw ≡ parcel.saw) where
    pub answer-may : (answer : Completion) → picked ≡ Answer answer → MayEnd board t answer saw hand
    answer-may answer is =
        let named = picks-answer node (channel_of node parcel.completion) answer (sym picks ∙ is) in
        subst (λ (s : Bool). MayEnd board t answer s hand) (sym same)
        (subst (λ (c : Completion). MayEnd board t c parcel.saw hand) (sym named.3) (answer-ends named.0 named.1 named.2))

    pub pass-may : picked ≡ Passes → MayEnd board t parcel.completion saw hand
    pass-may is =
        subst (λ (s : Bool). MayEnd board t parcel.completion s hand) (sym same)
        (pass-ends (picks-passes node (channel_of node parcel.completion) (sym picks ∙ is)))

-- A body has completed, and a look was made.
pub body-ends : (board : Board Blueprint) (t : Stepping) (parcel : Delivery) (old new : HandSeat) → MayEndAsBody board t parcel old →
    Keeps board t old new → (saw : Bool) → Looked board t.name saw old.me new.me → MayEnd board t parcel.completion saw new
body-ends board t parcel old new may keeps saw looked =
    let of = taken-of board t old may.taken may.node may.node_is in
    let ready = ready-on board t old new keeps 1 may.has.ready in
    let-ends board t new (taken-on board t old new keeps may.taken) may.node may.node_is may.is_let ready parcel.completion saw
    (look-sees board t.name saw old.me new.me looked) may.has.done.small
    (bodies-allowed t.start may.node of parcel may.has.body (has_heard board t.name old.me) may.has.done may.has.among saw
    (λ none. unheard-before board t.name old.me new.me keeps.ready (look-hears board t.name t.start 1 old.me new.me ready saw looked none)))

-- Nothing has completed: the child may be started.
module _ (node : Node) (is : IsLet node) where
  asked-same : (n : Node) → IsLet n → (asked : Bool) → asked_below (Some n) asked ≡ asked
  asked-same (LetValue k pick xs) let_is asked = refl
  asked-same (LetError k pick xs) let_is asked = refl
  asked-same (LetStopped k pick xs) let_is asked = refl
  asked-same n let_is asked = absurd let_is

  child-asked : (s : List Entry) → IsStartOf s node → asked_of s ≡ asked_for_child s
  child-asked [] of = none-some of.node_is
  child-asked (p ∷ above) of = sym (ap (λ o. asked_below o p.asked) of.node_is ∙ asked-same node is p.asked)

  child-runs : (s : List Entry) → IsStartOf s node → RunsBelow s (let_child node)
  child-runs [] of = none-some of.node_is
  child-runs (p ∷ above) of =
      subst (λ o. Contains (run_below o p) (let_child node)) (sym of.node_is) (below-plain node p (let_child node) (let-runs node is))

pub let-starts : (board : Board Blueprint) (t : Stepping) (node : Node) (hand : HandSeat) → node_at board t.name ≡ Some node → IsLet node →
    IsTaken board t hand → MayRun board t (let_child node) (asked_of t.start) hand
let-starts board t node hand at is taken =
    let of = taken-of board t hand taken node at in
    let none : least_of (Rest t.start None) ≡ 0 = few-begun.idle t.start node of.node_is (let-plain node is) in
    record {
      taken = taken;
      few = subst (λ k. Ready board t.name t.start k hand.me) (sym none) taken.ready;
      least = omega (arith, none);
      runs = child-runs node is t.start of;
      asked_is = child-asked node is t.start of;
    }

-- what a node of a small plan completes with
small-shape : (shape : Shape) → IsSmallShape shape → (values : List Datum) → HasShape values shape → is_small (Value values) ≡ true
small-shape None small values have = absurd have
small-shape (Some []) small [] have = refl
small-shape (Some []) small (x ∷ xs) have = absurd have
small-shape (Some (IntKind ∷ [])) small values have =
    let one = one-int values have in ap (λ (l : List Datum). is_small (Value l)) one.1
small-shape shape small values have = absurd small

small-done : (plan : Blueprint) (small : IsSmall plan) (n : ℕ) (shape : Shape) (reached : Reaches plan.nodes plan.settings.input n shape)
    (done : Completion) → Fits (sig_of plan.nodes n shape) done → is_small done ≡ true
small-done plan small n shape reached (Value values) fits =
    small-shape (sig_of plan.nodes n shape).value (small.values n shape reached) values fits
small-done plan small n shape reached (Error name) fits = refl
small-done plan small n shape reached Stopped fits = refl
small-done plan small n shape reached NoMemory fits = refl

small-delivers : (child start : List Entry) → IsChildOf child start → IsStart child → IsRunnable (plan_of start) → IsSmall (plan_of start) →
    (saw : Bool) (done : Completion) → MayDeliver child saw done → is_small done ≡ true
small-delivers [] start of is runnable small saw done may = absurd of
small-delivers (e ∷ []) start of is runnable small saw done may = absurd of
small-delivers (e ∷ p ∷ above) start of is runnable small saw done may =
    let kinds = is.0.kinds in
    let same : plan_of start ≡ e.plan = ap plan_of of.0 ∙ sym is.0.under.plan in
    let own : IsRunnable e.plan = subst IsRunnable same runnable in
    elim may [
      | inl want ↦ ap is_small want
      | inr allowed ↦
          small-done e.plan (subst IsSmall same small) e.node kinds.shape kinds.reached done
          (kinds-kept e.plan.nodes e.plan.settings.input (plans-built e.plan own.plan_is) own.matching e.node kinds.shape kinds.reached
          e.args kinds.kinds e.number (seen_state e.asked saw) done allowed)
    ]

-- so a let may complete with want of memory where its child's data are more
pub want-ends : (board : Board Blueprint) (t : Stepping) (node : Node) (parcel : Delivery) (hand : HandSeat) → MayGoOn board t node parcel hand →
    is_small parcel.completion ≡ false → MayEnd board t NoMemory false hand
want-ends board t node parcel hand may large =
    let of = taken-of board t hand may.taken node may.node_is in
    record {
      taken = may.taken;
      inner = taken-inner board t hand may.taken node may.node_is;
      allowed = inl refl;
      few = subst (λ k. Ready board t.name t.start k hand.me) (sym (few-begun.want (parcel_with t.start NoMemory false) refl)) may.taken.ready;
      sees = λ none. refl;
      small = λ small.
          absurd (both_ways (is_small parcel.completion) large
          (small-delivers parcel.start t.start may.has.from.child may.has.from.delivers.start of.runnable small parcel.saw parcel.completion
          may.has.from.delivers.may));
    }
