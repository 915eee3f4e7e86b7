-- How the body that was picked begins.
use Rattle.std.specs.Prelude.{Contains, IfSome, slice_get}
use Rattle.std.proofs.lemmas.Option.{same_Some}
use Rattle.std.proofs.Common.{◌≡◌, ℕ, Bool, true, false, List, [], Option, Some, None, refl, sym, ◌∙◌, subst, arith}
use Rattle.std.proofs.lemmas.Bool.{both_ways}
use Rattle.std.proofs.lemmas.List.Elements.{All-contains}
use Rattle.common_lemmas.proofs.Bool.{either}
use Rattle.exec_value.specs.declared.data.Datum.{Datum}
use Rattle.exec_value.specs.declared.outcome.Completion.{Completion}
use Rattle.exec_job.specs.Apply.{TakesData, apply_of}
use Rattle.life_rules.specs.Views.{beside}
use Rattle.node_tree.specs.Tree.{is_child}
use Rattle.plan_rules.specs.declared.node.Node.{Node}
use Rattle.plan_rules.specs.declared.node.Node.TheVariants.{LetValue, LetError, LetStopped}
use Rattle.plan_rules.specs.Children.{named_by}
use Rattle.plan_shape.specs.Blueprint.{Blueprint}
use Rattle.plan_kinds.specs.Built.{IsNoPart}
use Rattle.plan_kinds.specs.Runs.{bodies_of}
use Rattle.plan_kinds.proofs.Placing.{body-named}
use Rattle.plan_kinds.proofs.Plans.{plans-built}
use Rattle.table_steps.specs.Views.{Board, IsPlaceIn, Stays}
use Rattle.table_steps.specs.Readings.{HoldsAbove, IsBegunAs, KnowsIdle}
use Rattle.table_steps.specs.Slots.{has_seen}
use Rattle.node_images.specs.Picks.{picked_body}
use Rattle.home_items.specs.declared.entry.Entry.{Entry}
use Rattle.home_items.specs.Bounds.{least_of}
use Rattle.home_items.specs.Contents.{Rest}
use Rattle.home_items.specs.Entries.{asked_of, start_below, start_with}
use Rattle.home_items.specs.Parcels.{Delivery}
use Rattle.home_items.proofs.KindsBelow.{body-among}
use Rattle.home_items.proofs.Starting.{plain-start}
use Rattle.exec_recv.specs.Seats.{HandSeat}
use Rattle.exec_recv.specs.Sites.{plan_at}
use Rattle.exec_recv.proofs.Fitting.{sees-more}
use Rattle.start_laws.specs.Laws.{MayBegin as MayBeginWith}
use Rattle.start_laws.specs.Lets.{channel_of, pick_of}
use Rattle.start_laws.specs.Nodes.{IsStartOf, JobTakes}
use Rattle.start_laws.proofs.Bodies.{bodies-begin, picked-number}
use Rattle.start_laws.proofs.Bounding.{few-begun}
use Rattle.start_laws.proofs.Operands.{jobs-take}
use Rattle.step_parts.specs.Heard.{Looked}
use Rattle.step_parts.specs.Leaves.{MayLeave}
use Rattle.step_parts.specs.Starts.{MayBegin}
use Rattle.step_parts.specs.Stepping.{Stepping}
use Rattle.step_parts.specs.Takes.{Keeps}
use Rattle.step_parts.proofs.Ended.{taken-on, parcel-on}
use Rattle.step_parts.proofs.Places.{seen-below}
use Rattle.step_parts.proofs.Reading.{child-above, child-place, begun-keeps, idle-keeps, idle-known}
use Rattle.step_parts.proofs.Took.{taken-of, taken-leaves}
use Rattle.exec_let.specs.declared.picking.Picked.TheVariants.{Body}
use Rattle.exec_let.specs.Ends.{MayGoOn, MayBeginBody}
use Rattle.exec_let.specs.Kinds.{IsLet}
use Rattle.exec_let.specs.Picks.{answer_from, body_or, picked_for, CanPick}
use Rattle.exec_let.proofs.Places.{let-plain, let-awaits, some-bodies, let-source, stoppable, body-below}
use Rattle.exec_let.proofs.Reading.{look-hears}

-- where the pick names a body there are data for it, and its answer to them names the body
body-is : (answer : Completion) (o : Option ℕ) (body : ℕ) → body_or answer o ≡ Body body → o ≡ Some body
body-is answer None body e = cc
body-is answer (Some n) body e = cc

pub picks-body : (node : Node) (o : Option (List Datum)) (body : ℕ) → picked_for node o ≡ Body body →
    (values : List Datum) × (o ≡ Some values) × (picked_body (answer_from node values) (bodies_of node) ≡ Some body)
picks-body node None body e = cc
picks-body node (Some values) body e =
    (values, refl, body-is (answer_from node values) (picked_body (answer_from node values) (bodies_of node)) body e)

-- The pick names this body, and a look was made.
module _ (board : Board Blueprint) (t : Stepping) (node : Node) (parcel : Delivery) (body : ℕ) (old heard : HandSeat)
    (begins : MayBeginBody board t node parcel body old) (keeps : Keeps board t old heard) (saw : Bool)
    (looked : Looked board t.name saw old.me heard.me) where
  pub goes-on : MayGoOn board t node parcel heard
  goes-on = record {
    taken = taken-on board t old heard keeps begins.may.taken;
    node_is = begins.may.node_is;
    is_let = begins.may.is_let;
    has = parcel-on board t old heard keeps parcel begins.may.has;
  }

  named : (values : List Datum) × (channel_of node parcel.completion ≡ Some values)
      × (picked_body (answer_from node values) (bodies_of node) ≡ Some body)
  named = picks-body node (channel_of node parcel.completion) body begins.picks

  among : Contains (bodies_of node) body
  among =
      let picked = picked-number (apply_of (pick_of node) named.0) (bodies_of node) body named.2 in
      subst (Contains (bodies_of node)) (sym picked.2)
      (body-among (bodies_of node) (some-bodies board t.name node goes-on.taken.site goes-on.node_is goes-on.is_let) picked.0)

  -- it stands below the let, and is no part of a bulk
  pub child : is_child board.frame.tree t.name.node body ≡ true
  child = body-below board t.name node goes-on.taken.site goes-on.node_is goes-on.is_let body among

  no-part : IsNoPart (slice_get (plan_at board).nodes body)
  no-part =
      All-contains (λ k. IsNoPart (slice_get (plan_at board).nodes k)) (named_by node) body
      ((plans-built (plan_at board) goes-on.taken.site.over.is_plan).no_parts t.name.node node goes-on.node_is) (body-named node body among)

  of : IsStartOf t.start node
  of = taken-of board t heard goes-on.taken node goes-on.node_is

  -- its word can be read
  pub body-place : IsPlaceIn board (beside t.name body)
  body-place = child-place board t.name t.start body 0 heard.me goes-on.taken.ready child

  pub body-above : HoldsAbove board.frame.tree heard.me.0 (beside t.name body)
  body-above = child-above board t.name t.start body 0 heard.me goes-on.taken.ready child

  -- It was read.
  module _ (new : HandSeat) (after : Keeps board t heard new) where
    later : MayGoOn board t node parcel new
    later = record {
      taken = taken-on board t heard new after goes-on.taken;
      node_is = goes-on.node_is;
      is_let = goes-on.is_let;
      has = parcel-on board t heard new after parcel goes-on.has;
    }

    -- the let may go on later
    body-leaves : MayLeave board t (Some parcel) new
    body-leaves = taken-leaves board t new later.taken node later.node_is (let-awaits node later.is_let) (Some parcel) later.has

    -- what the child saw the hand has seen
    saw-seen : has_seen board.frame.tree new.me.0 (beside t.name body) ≡ false → parcel.saw ≡ false
    saw-seen none =
        let site = goes-on.taken.site in
        let here = sym (seen-below board t.name body new.me site.over.is_tree (let-source board t.name node site goes-on.node_is goes-on.is_let)
        (stoppable board t.name node site goes-on.node_is goes-on.is_let) child) ∙ none in
        either saw
        (λ yes. absurd (both_ways (has_seen board.frame.tree new.me.0 t.name) here
        (sees-more board.frame.tree heard.me new.me t.name after.ready.beside.aside.sees (looked.yes yes))))
        (λ no. goes-on.has.from.saw (look-hears board t.name t.start 1 old.me heard.me goes-on.has.ready saw looked no))

    -- or the body may begin with the data of the let's channel
    module _ (values : List Datum) (on : channel_of node parcel.completion ≡ Some values) where
      picks : picked_body (answer_from node values) (bodies_of node) ≡ Some body
      picks =
          subst (λ (l : List Datum). picked_body (answer_from node l) (bodies_of node) ≡ Some body)
          (same_Some named.0 values (sym named.1 ∙ on)) named.2

      abbrev start : List Entry
      start = start_with body values (asked_of t.start) t.start

      same-start : start_below body values [] (asked_of t.start) t.start ≡ start
      same-start =
          sym (plain-start body values (asked_of t.start) t.start
          (subst (λ (p : Blueprint). IsNoPart (slice_get p.nodes body)) (sym goes-on.taken.ready.is.key) no-part))

      body-may : (requested : Bool) → (requested ≡ false → parcel.saw ≡ false) → MayBeginWith start body requested
      body-may requested sees =
          subst (λ (l : List Entry). MayBeginWith l body requested) same-start
          (bodies-begin t.start node of parcel goes-on.has.from.delivers goes-on.has.from.child values on body picks requested sees)

      body-begins : KnowsIdle t.name body new.me → MayBegin board t body values (asked_of t.start) new
      body-begins idle =
          let none : least_of (Rest t.start None) ≡ 0 = few-begun.idle t.start node of.node_is (let-plain node goes-on.is_let) in
          record {
            taken = later.taken;
            few = omega (arith, none);
            child = child;
            plain = subst (λ (p : Blueprint). IsNoPart (slice_get p.nodes body)) (sym goes-on.taken.ready.is.key) no-part;
            begins = (body-may true (λ wrong. cc)).begins;
            calmly = λ none. ((body-may (has_seen board.frame.tree new.me.0 (beside t.name body)) saw-seen).fits.1 none).start;
            idle = idle;
          }

  module _ (new : HandSeat) (stays : Stays board heard new) where
    -- where it said that the body has begun, the let goes on later
    pub begun-leaves : IsBegunAs board.frame (beside t.name body) true heard.me new.me → MayLeave board t (Some parcel) new
    begun-leaves read =
        body-leaves new
        (record { stays = stays; ready = begun-keeps board t.name t.start body 0 heard.me goes-on.taken.ready child new.me read })

    -- and else the body begins
    pub idle-begins : IsBegunAs board.frame (beside t.name body) false heard.me new.me → (values : List Datum) →
        channel_of node parcel.completion ≡ Some values → MayBegin board t body values (asked_of t.start) new
    idle-begins read values on =
        body-begins new
        (record { stays = stays; ready = idle-keeps board t.name t.start body 0 heard.me goes-on.taken.ready child new.me read }) values on
        (idle-known board t.name t.start body 0 heard.me goes-on.taken.ready child new.me read)

-- The pick takes the data that the child has for the let, and there are bodies.
let-takes : (node : Node) → IsLet node → (done : Completion) → JobTakes node done → IfSome (channel_of node done) (TakesData (pick_of node))
let-takes (LetValue x pick xs) is done takes = takes
let-takes (LetError x pick xs) is done takes = takes
let-takes (LetStopped x pick xs) is done takes = takes
let-takes node is done takes = absurd is

pub let-picks : (board : Board Blueprint) (t : Stepping) (node : Node) (parcel : Delivery) (hand : HandSeat) → MayGoOn board t node parcel hand →
    CanPick node (channel_of node parcel.completion)
let-picks board t node parcel hand may = record {
  is_let = may.is_let;
  takes = let-takes node may.is_let parcel.completion
      (jobs-take t.start node (taken-of board t hand may.taken node may.node_is) parcel may.has.from.delivers may.has.from.child);
  some = some-bodies board t.name node may.taken.site may.node_is may.is_let;
}
