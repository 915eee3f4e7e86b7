-- How the step of a factory goes on.
use Rattle.std.proofs.Common.{◌≡◌, ◌≢◌, inl, inr, ℕ, Bool, true, false, ◌||◌, List, [], ◌∷◌, Some, refl, sym, ap, ◌∙◌, subst}
use Rattle.exec_value.specs.declared.outcome.Completion.{Completion}
use Rattle.exec_value.specs.declared.outcome.Completion.TheVariants.{Value, Error, NoMemory}
use Rattle.life_rules.specs.declared.event.Name.{Name}
use Rattle.plan_kinds.specs.Small.{IsSmall}
use Rattle.plan_rules.specs.declared.node.Node.{Node}
use Rattle.plan_rules.specs.declared.node.Node.TheVariants.{Input, Just, JustError, JustStopped, ReadEnv}
use Rattle.plan_rules.specs.declared.node.Query.{Query}
use Rattle.plan_rules.specs.declared.node.Query.TheVariants.{Stop, Record}
use Rattle.plan_rules.specs.Settle.{shown_of}
use Rattle.plan_shape.specs.Blueprint.{Blueprint}
use Rattle.table_steps.specs.Views.{Board}
use Rattle.home_items.specs.declared.entry.Entry.{Entry}
use Rattle.home_items.specs.declared.item.State.{State}
use Rattle.home_items.specs.Entries.{args_of, asked_of, carried_by, carried_of, plan_of, record_number}
use Rattle.home_items.specs.Parcels.{MayDeliver, parcel_with}
use Rattle.node_images.specs.Makes.{CompletesInPlace}
use Rattle.exec_recv.specs.declared.next.Next.{Next}
use Rattle.exec_recv.specs.Seats.{HandSeat}
use Rattle.exec_recv.specs.Sites.{node_at, MayStep}
use Rattle.start_laws.specs.Leaves.{IsLeaf, leaf_of}
use Rattle.start_laws.specs.Nodes.{IsStartOf, start_node}
use Rattle.start_laws.specs.RoomLaws.{IsLongError}
use Rattle.start_laws.proofs.Bounding.{few-begun}
use Rattle.start_laws.proofs.LeafCases.{leaves-allowed}
use Rattle.start_laws.proofs.Rooms.{room-there}
use Rattle.step_parts.specs.Completes.{MayEnd}
use Rattle.step_parts.specs.Heard.{Looked, MaySee}
use Rattle.step_parts.specs.Midway.{Ready}
use Rattle.step_parts.specs.Stepping.{Stepping}
use Rattle.step_parts.specs.Takes.{IsTaken, Keeps, TakesState}
use Rattle.step_parts.proofs.Asked.{look-sees}
use Rattle.step_parts.proofs.Ended.{open-none, open-taken, taken-on}
use Rattle.step_parts.proofs.Wanted.{want-ends}
use Rattle.step_parts.proofs.Took.{taken-inner, taken-of}
use Rattle.exec_adapt.specs.Adapts.{Makes, MakesAs}
use Rattle.exec_adapt.specs.Ends.{MayAnswer, MayMake}
use Rattle.exec_adapt.specs.Images.{made_of}
use Rattle.exec_adapt.specs.Kinds.{IsFactory, IsPlainFactory}
use Rattle.exec_adapt.proofs.Places.{factory-only}

-- what a leaf completes with isn't want of memory
shown-memory : (query : Query) (number : ℕ) (found : Bool) → shown_of query number found ≢ NoMemory
shown-memory Stop number true e = cc
shown-memory Stop number false e = cc
shown-memory Record number found e = cc

made-memory : (node : Node) → IsPlainFactory node → (number : ℕ) (stop : Bool) → made_of node number stop ≢ NoMemory
made-memory (Just values) is number stop = λ e. cc
made-memory JustStopped is number stop = λ e. cc
made-memory (ReadEnv query) is number stop = λ e. shown-memory query number stop e
made-memory node is number stop = absurd is

-- nor an error
made-no_error : (node : Node) → IsPlainFactory node → (number : ℕ) (stop : Bool) → IsLongError (made_of node number stop) → ⊥
made-no_error (Just values) is number stop long = long
made-no_error JustStopped is number stop long = long
made-no_error (ReadEnv Stop) is number true long = long
made-no_error (ReadEnv Stop) is number false long = long
made-no_error (ReadEnv Record) is number stop long = long
made-no_error node is number stop long = absurd is

made-leaf : (node : Node) → IsPlainFactory node → IsLeaf node
made-leaf (Just values) is = tt
made-leaf JustStopped is = tt
made-leaf (ReadEnv query) is = tt
made-leaf node is = absurd is

-- by the law of leaves: only a query of stop tells what was found
made-is : (node : Node) → IsPlainFactory node → (start : List Entry) (stop found : Bool) → (node ≡ ReadEnv Stop → stop ≡ found) →
    made_of node (record_number start) stop ≡ leaf_of node found start
made-is (Just values) is start stop found same = refl
made-is JustStopped is start stop found same = refl
made-is (ReadEnv Stop) is start stop found same = ap (shown_of Stop (record_number start)) (same refl)
made-is (ReadEnv Record) is start stop found same = refl
made-is node is start stop found same = absurd is

-- A leaf of the plan was taken up.
module _ (board : Board Blueprint) (t : Stepping) (hand : HandSeat) (taken : IsTaken board t hand) (node : Node) (at : node_at board t.name ≡ Some node)
    (is : IsLeaf node) (saw : Bool) (sees : MaySee board t.name saw hand.me) where
  abbrev of : IsStartOf t.start node
  of = taken-of board t hand taken node at

  abbrev found : Completion
  found = leaf_of node (asked_of t.start || saw) t.start

  leaf-may : MayDeliver t.start saw found
  leaf-may = leaves-allowed.seen t.start node of is saw

  -- it may complete so
  pub leaf-ends : (done : Completion) → done ≡ found → (done ≢ NoMemory) → MayEnd board t done saw hand
  leaf-ends done made memory = record {
    taken = taken;
    inner = taken-inner board t hand taken node at;
    allowed = subst (λ (c : Completion). MayDeliver t.start saw c) (sym made) leaf-may;
    few = subst (λ k. Ready board t.name t.start k hand.me) (sym (few-begun.leaf (parcel_with t.start done saw) node of.node_is is)) taken.ready;
    sees = sees;
    small = λ small. memory;
  }

  -- in a small plan it stands in place, but for an error's name
  pub leaf-large : (CompletesInPlace found → ⊥) → (IsLongError found → ⊥) → ¬ IsSmall (plan_of t.start)
  leaf-large wants short small = elim (room-there.in_place t.start node of small saw found leaf-may) [
    | inl in_place ↦ wants in_place
    | inr long ↦ short long
  ]

-- An `input` completes with its arguments, and an error of the plan with its name.
module _ (board : Board Blueprint) (t : Stepping) (hand : HandSeat) (taken : IsTaken board t hand) where
  pub input-carries : node_at board t.name ≡ Some Input → carried_of t.start ≡ args_of t.start
  input-carries at = carries t.start (taken-of board t hand taken Input at).node_is
    where
      carries : (start : List Entry) → start_node start ≡ Some Input → carried_of start ≡ args_of start
      carries [] is = refl
      carries (e ∷ above) is = ap (λ o. carried_by o e) is

  pub input-ends : node_at board t.name ≡ Some Input → MayEnd board t (Value (carried_of t.start)) false hand
  input-ends at =
      leaf-ends board t hand taken Input at tt false (λ none. refl) (Value (carried_of t.start)) (ap Value (input-carries at)) (λ e. cc)

  pub error-names : (name : List ℕ) → node_at board t.name ≡ Some (JustError name) → MayEnd board t (Error name) false hand
  error-names name at = leaf-ends board t hand taken (JustError name) at tt false (λ none. refl) (Error name) refl (λ e. cc)

-- The others complete with what the plan or the environment says.
module _ (board : Board Blueprint) (t : Stepping) (node : Node) (stop saw : Bool) (hand : HandSeat) (may : MayMake board t node stop saw hand) where
  abbrev made : Completion
  made = made_of node (record_number t.start) stop

  same : made ≡ leaf_of node (asked_of t.start || saw) t.start
  same = made-is node may.made t.start stop (asked_of t.start || saw) may.stop_is

  pub made-ends : (done : Completion) → done ≡ made → MayEnd board t done saw hand
  made-ends done is =
      leaf-ends board t hand may.taken node may.node_is (made-leaf node may.made) saw may.sees done (is ∙ same)
      (λ e. made-memory node may.made (record_number t.start) stop (sym is ∙ e))

  -- where that doesn't stand in place, there may be no memory for it
  pub made-wants : (CompletesInPlace made → ⊥) → MayEnd board t NoMemory false hand
  made-wants wants =
      want-ends board t hand may.taken (taken-inner board t hand may.taken node may.node_is)
      (leaf-large board t hand may.taken node may.node_is (made-leaf node may.made) saw may.sees
      (λ in_place. wants (subst CompletesInPlace (sym same) in_place))
      (λ long. made-no_error node may.made (record_number t.start) stop (subst IsLongError (sym same) long)))

-- A factory was taken up.
module _ (board : Board Blueprint) (x : Name) (node : Node) (at : node_at board x ≡ Some node) (is : IsFactory node) (taken : Stepping) (state : State)
    (old up : HandSeat) (takes : TakesState board x taken state old up) (may : MayStep board x old) where
  pub leaf-at : node_at board taken.name ≡ Some node
  leaf-at = ap (node_at board) takes.name_is ∙ at

  -- it has no child
  pub leaf-taken : IsTaken board taken up
  leaf-taken =
      let opened = takes.opened may.can in
      open-taken board taken may.can.item up
      (open-none board taken may.can.item may.can.kid up opened
      (λ n below. let none = (factory-only board taken.name node opened.site leaf-at is).only n below in cc))

-- one that is no input, no error, and no query
pub other-made : (node : Node) → IsFactory node → (node ≡ Input → ⊥) → ((name : List ℕ) → node ≡ JustError name → ⊥) → IsPlainFactory node
other-made Input is input error = input refl
other-made (Just values) is input error = tt
other-made (JustError name) is input error = error name refl
other-made JustStopped is input error = tt
other-made (ReadEnv query) is input error = tt
other-made node is input error = absurd is

-- A node answers its query: one of stop looked, and answers what it found.
module _ (board : Board Blueprint) (t : Stepping) (node : Node) (query : Query) (old : HandSeat) (may : MayAnswer board t node query old) where
  made-query : IsPlainFactory node
  made-query = subst (λ (n : Node). IsPlainFactory n) (sym may.query_is) tt

  pub answer-looks : (saw : Bool) (new : HandSeat) → Keeps board t old new → Looked board t.name saw old.me new.me → (stop : Bool) →
      stop ≡ (asked_of t.start || saw) → MayMake board t node stop saw new
  answer-looks saw new keeps looked stop stop_is = record {
    taken = taken-on board t old new keeps may.taken;
    node_is = may.node_is;
    made = made-query;
    sees = look-sees board t.name saw old.me new.me looked;
    stop_is = λ is. stop_is;
  }

  pub answer-tells : query ≡ Record → MayMake board t node false false old
  answer-tells is = record {
    taken = may.taken;
    node_is = may.node_is;
    made = made-query;
    sees = λ none. refl;
    stop_is = λ stop. let other : ReadEnv Record ≡ ReadEnv Stop = ap (λ (q : Query). ReadEnv q) (sym is) ∙ sym may.query_is ∙ stop in cc;
  }

-- the same, by what it makes
pub made-as : (board : Board Blueprint) (t : Stepping) (next : Next) (old new : HandSeat) (node : Node) → IsFactory node → (node ≡ Input → ⊥) →
    ((name : List ℕ) → node ≡ JustError name → ⊥) → ((query : Query) → node ≡ ReadEnv query → ⊥) → Makes board t node false false next old new →
    MakesAs board t node next old new
made-as board t next old new Input is input error query makes = absurd (input refl)
made-as board t next old new (Just values) is input error query makes = makes
made-as board t next old new (JustError name) is input error query makes = absurd (error name refl)
made-as board t next old new JustStopped is input error query makes = makes
made-as board t next old new (ReadEnv asks) is input error query makes = absurd (query asks refl)
made-as board t next old new node is input error query makes = absurd is
