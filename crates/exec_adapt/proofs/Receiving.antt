-- How the step of the receiver node goes on from what lay in the homes.
use Rattle.std.specs.Prelude.{◌≢◌, Contains, is_some, IfSome}
use Rattle.std.specs.Option.{option_map}
use Rattle.std.proofs.Common.{◌≡◌, inl, inr, ℕ, Bool, true, List, [], ◌∷◌, length, Option, Some, None, refl, sym, ap, ◌∙◌, subst, arith}
use Rattle.std.proofs.lemmas.Option.{same_Some}
use Rattle.exec_value.specs.declared.outcome.Completion.TheVariants.{NoMemory}
use Rattle.life_rules.specs.declared.event.Name.{Name}
use Rattle.life_rules.specs.Views.{beside}
use Rattle.node_tree.specs.Tree.{is_child, is_root}
use Rattle.plan_kinds.specs.Small.{IsSmall}
use Rattle.plan_kinds.specs.TreeLaws.{IsTop}
use Rattle.plan_shape.specs.Blueprint.{Blueprint}
use Rattle.table_steps.specs.Readings.{IsBegunAs, KnowsIdle}
use Rattle.table_steps.specs.Views.{Board, Stays}
use Rattle.home_items.specs.declared.entry.Entry.{Entry}
use Rattle.home_items.specs.declared.item.Item.{Item}
use Rattle.home_items.specs.declared.item.State.{State}
use Rattle.home_items.specs.declared.item.State.TheVariants.{Start as Begins}
use Rattle.home_items.specs.Below.{run_below, asked_below}
use Rattle.home_items.specs.Bounds.{least_of, least_at_rest}
use Rattle.home_items.specs.Contents.{Start, Rest, Done}
use Rattle.home_items.specs.Entries.{asked_of, child_of, plan_of}
use Rattle.home_items.specs.Fits.{IsItemOf, KeepsParcel}
use Rattle.home_items.specs.Items.{is_start, parcel_in, saw_in, start_in, state_of}
use Rattle.home_items.specs.Parcels.{Delivery}
use Rattle.home_items.specs.Starts.{IsReceiverStart}
use Rattle.home_items.proofs.Collecting.{receiver-none}
use Rattle.home_items.proofs.KindsBelow.{option-in}
use Rattle.exec_recv.specs.Seats.{HandSeat}
use Rattle.exec_recv.specs.Sites.{node_at, plan_at, MayStep}
use Rattle.exec_recv.specs.Steppable.{CanStep}
use Rattle.start_laws.proofs.Bounding.{few-begun}
use Rattle.step_parts.specs.Heard.{MaySee}
use Rattle.step_parts.specs.Leaves.{MayLeave}
use Rattle.step_parts.specs.Midway.{Ready}
use Rattle.step_parts.specs.Starts.{RunsBelow, asked_for_child, MayRun}
use Rattle.step_parts.specs.Stepping.{Stepping}
use Rattle.step_parts.specs.Takes.{HasParcel, IsOpenWith, IsTaken, Keeps, TakesBack, TakesKept, TakesState}
use Rattle.step_parts.proofs.Frames.{ready-less}
use Rattle.step_parts.proofs.Reading.{begun-idle, begun-keeps}
use Rattle.step_parts.proofs.Started.{run-still}
use Rattle.step_parts.proofs.Telling.{from-keeps}
use Rattle.exec_adapt.specs.Ends.{MayReceive, MayRestAgain, MayReadTop}
use Rattle.exec_adapt.proofs.Rested.{kept-taken, kept-has}
use Rattle.exec_adapt.proofs.TopPlaces.{SpawnsNone, small-spawns, last-node, only-root, root-is, top-start, names-some, names-top, top-child}

-- what the start of the receiver node tells
start-runs : (start : List Entry) → IsReceiverStart start → (n : ℕ) → child_of start ≡ Some n → RunsBelow start n
start-runs [] is n names = absurd is
start-runs (e ∷ p ∷ above) is n names = absurd is
start-runs (e ∷ []) is n names =
    subst (λ o. Contains (run_below o e) n) (sym (receiver-none e is)) (option-in e.child n names)

start-asked : (start : List Entry) → IsReceiverStart start → asked_of start ≡ asked_for_child start
start-asked [] is = absurd is
start-asked (e ∷ p ∷ above) is = absurd is
start-asked (e ∷ []) is = sym (ap (λ o. asked_below o e.asked) (receiver-none e is))

keeps-one : (start : List Entry) → IsReceiverStart start → (parcel : Delivery) → least_of (Rest start (Some parcel)) ≡ 1
keeps-one [] is parcel = absurd is
keeps-one (e ∷ p ∷ above) is parcel = absurd is
keeps-one (e ∷ []) is parcel = ap (λ o. least_at_rest o (Some parcel)) (receiver-none e is)

start-is : (item : Item) → state_of item ≡ Begins → is_start item ≡ true
start-is (Start start) is = refl
start-is (Rest start None) is = cc
start-is (Rest start (Some parcel)) is = cc
start-is (Done parcel) is = cc

-- where a home is empty no parcel lies in it
full-none : (o : Option Item) → o ≡ None → is_some o ≡ true → ⊥
full-none None e t = cc
full-none (Some i) e t = cc

none-kept : (inside : Item) → parcel_in inside ≡ None → KeepsParcel inside → ⊥
none-kept (Start start) none keeps = absurd keeps
none-kept (Rest start None) none keeps = absurd keeps
none-kept (Rest start (Some parcel)) none keeps = cc
none-kept (Done parcel) none keeps = absurd keeps

-- The step of the receiver node goes on.
module _ (board : Board Blueprint) (t : Stepping) (inside : Item) (kid : ℕ → Option Item) (hand : HandSeat) (is : IsOpenWith board t inside kid hand)
    (root : node_at board t.name ≡ None) where
  -- its start is one of the receiver node
  pub open-top : IsReceiverStart t.start
  open-top = top-start board t.name is.site root is.midway.place t.start is.midway.node is.midway.key is.start_is

  -- and names a child
  pub open-names : child_of t.start ≡ None → ⊥
  open-names none = names-some t.start open-top none

  module _ (child : ℕ) (names : child_of t.start ≡ Some child) where
    pub named-top : IsTop (plan_at board).nodes child
    named-top = names-top (plan_at board) t.start open-top is.midway.key child names

    pub named-child : is_child board.frame.tree t.name.node child ≡ true
    named-child = top-child board t.name is.site root is.midway.place child named-top

    -- which is its only one, where the plan has no `ahead`
    pub named-only : SpawnsNone (plan_at board) → (n : ℕ) → is_child board.frame.tree t.name.node n ≡ true → child ≡ n
    named-only spawns n at =
        same_Some child n ((only-root board t.name is.site root is.midway.place spawns child named-top).only n at)

-- The homes of its children are empty.
module _ (board : Board Blueprint) (t : Stepping) (hand : HandSeat) (taken : IsTaken board t hand) (root : node_at board t.name ≡ None) where
  top : IsReceiverStart t.start
  top = top-start board t.name taken.site root taken.ready.is.place t.start taken.ready.is.node taken.ready.is.key taken.start_is

  pub top-root : is_root board.frame.tree t.name.node ≡ true
  top-root = root-is board t.name taken.site root taken.ready.is.place

  pub top-below : (child : ℕ) → child_of t.start ≡ Some child → is_child board.frame.tree t.name.node child ≡ true
  top-below child names =
      top-child board t.name taken.site root taken.ready.is.place child (names-top (plan_at board) t.start top taken.ready.is.key child names)

  -- the child that its start names can be started
  pub top-runs : (child : ℕ) → child_of t.start ≡ Some child → MayRun board t child (asked_of t.start) hand
  top-runs child names =
      let none : least_of (Rest t.start None) ≡ 0 = few-begun.top_idle t.start top in
      record {
        taken = taken;
        few = subst (λ k. Ready board t.name t.start k hand.me) (sym none) taken.ready;
        least = omega (arith, none);
        runs = start-runs t.start top child names;
        asked_is = start-asked t.start top;
      }

  -- with the parcel of that it may rest
  pub top-leaves : (parcel : Delivery) → HasParcel board t hand.me parcel → MayLeave board t (Some parcel) hand
  top-leaves parcel has = record {
    keep = from-keeps board t hand taken parcel
        (ready-less board t.name t.start hand.me 1 (least_of (Rest t.start (Some parcel))) (few-begun.top_rest t.start top (Some parcel)) has.ready)
        has.from;
    rests = record { rest = tt; kept = λ small last. has.from.small small };
  }

-- The child is read: where it has begun, the node may be left with its start alone.
module _ (board : Board Blueprint) (t : Stepping) (child : ℕ) (old : HandSeat) (may : MayReadTop board t child old) where
  pub read-runs : MayRun board t child (asked_of t.start) old
  read-runs = top-runs board t old may.taken may.root child may.names

  pub begun-leaves : (new : HandSeat) → Stays board old new → (begun : Bool) → IsBegunAs board.frame (beside t.name child) begun old.me new.me →
      begun ≡ true → MayLeave board t None new
  begun-leaves new stays begun read is =
      let keeps : Keeps board t old new = record {
        stays = stays;
        ready = begun-keeps board t.name t.start child (least_of (Rest t.start None)) old.me read-runs.few
            (top-below board t old may.taken may.root child may.names) new.me
            (subst (λ b. IsBegunAs board.frame (beside t.name child) b old.me new.me) is read);
      } in
      let still = run-still board t child (asked_of t.start) old read-runs new keeps in
      record {
        keep = record { taken = still.taken; few = still.few; child = tt; saw = λ none. refl; small = λ small. none-known };
        rests = record { rest = tt; kept = λ small last. absurd (may.large small) };
      }
    where
      none-known : None ≡ Some NoMemory → ⊥
      none-known e = cc

-- It had rested: it may rest with what it kept of its child, or read whether that has begun.
module _ (board : Board Blueprint) (t : Stepping) (child : ℕ) (old : HandSeat) (may : MayRestAgain board t child old) (kept : Option Delivery)
    (new : HandSeat) (takes : TakesKept board t kept old new) where
  abbrev is-taken : IsTaken board t new
  is-taken = kept-taken board t may.inside old new may.rested kept takes

  pub kept-leaves : (parcel : Delivery) → kept ≡ Some parcel → MayLeave board t (Some parcel) new
  kept-leaves parcel is =
      top-leaves board t new is-taken may.root parcel
      (kept-has board t may.inside old new may.rested kept takes parcel is (keeps-one t.start (top board t new is-taken may.root) parcel))

  pub kept-reads : kept ≡ None → MayReadTop board t child new
  kept-reads none = record {
    taken = is-taken;
    root = may.root;
    names = may.names;
    large = may.large (takes.lay may.inside (λ _. None) may.rested.is ∙ none);
  }

-- It was taken up.
module _ (board : Board Blueprint) (x : Name) (taken : Stepping) (state : State) (old up : HandSeat) (takes : TakesState board x taken state old up)
    (may : MayStep board x old) (none : node_at board x ≡ None) where
  abbrev can : CanStep board x old.me
  can = may.can

  abbrev lies : IsOpenWith board taken can.item can.kid up
  lies = takes.opened can

  root : node_at board taken.name ≡ None
  root = ap (node_at board) takes.name_is ∙ none

  pub taken-names : child_of taken.start ≡ None → ⊥
  taken-names = open-names board taken can.item can.kid up lies root

  -- where it has begun nothing, it starts the child that its start names
  module _ (begins : state ≡ Begins) (child : ℕ) (names : child_of taken.start ≡ Some child) where
    first : is_start can.item ≡ true
    first = start-is can.item (sym (takes.state_is can) ∙ begins)

    abbrev is-new : IsTaken board taken up
    is-new = takes.fresh can first

    pub first-root : is_root board.frame.tree taken.name.node ≡ true
    first-root = top-root board taken up is-new root

    pub first-runs : MayRun board taken child (asked_of taken.start) up
    first-runs = top-runs board taken up is-new root child names

    pub first-idle : KnowsIdle taken.name child up.me
    first-idle =
        subst (λ (y : Name). KnowsIdle y child up.me) (sym takes.name_is)
        (begun-idle board x child up.me
        (subst (λ (y : Name). is_child board.frame.tree y.node child ≡ true) takes.name_is
        (named-child board taken can.item can.kid up lies root child names))
        (takes.begun can first))

  module _ (child : ℕ) (names : child_of taken.start ≡ Some child) where
    pub taken-top : IsTop (plan_at board).nodes child
    taken-top = named-top board taken can.item can.kid up lies root child names

    -- of one that had begun, in a small plan, the child has completed, or it keeps the child's parcel
    module _ (later : state ≢ Begins) where
      same-plan : plan_of taken.start ≡ plan_of (start_in can.item)
      same-plan = ap plan_of (sym lies.midway.inside_is)

      large : can.kid child ≡ None → parcel_in can.item ≡ None → ¬ IsSmall (plan_of taken.start)
      large empty nothing small =
          elim can.came [
            | inl begun ↦ later (takes.state_is can ∙ ap state_of begun.unbegun)
            | inr other ↦ elim other [
              | inl was ↦
                  none-kept can.item nothing
                  (was.rests.kept (subst IsSmall same-plan small)
                  (ap (λ (y : Name). y.node) (sym takes.name_is)
                  ∙ last-node board taken.name lies.site root lies.midway.place
                  ∙ ap (λ (b : Blueprint). length b.nodes) (sym lies.midway.key ∙ same-plan)))
              | inr back ↦
                  let only = named-only board taken can.item can.kid up lies root child names
                  (small-spawns (plan_at board) (subst IsSmall lies.midway.key small)) back.last
                  (subst (λ (y : Name). is_child board.frame.tree y.node back.last ≡ true) (sym takes.name_is) back.below) in
                  full-none (can.kid child) empty (ap (λ k. is_some (can.kid k)) only ∙ back.full)
            ]
          ]

      pub taken-receives : MayReceive board taken child up
      taken-receives = record {
        inside = can.item;
        kid = can.kid;
        rested = record {
          is = lies;
          of = subst (λ (y : Name). IsItemOf can.item y.node) (sym takes.name_is) (takes.of can);
          saw = subst (λ (y : Name). MaySee board y (saw_in can.item) up.me) (sym takes.name_is) (takes.saw can);
        };
        root = root;
        names = names;
        large = large;
      }

-- Once the homes of its children are empty.
module _ (board : Board Blueprint) (t : Stepping) (child : ℕ) (old : HandSeat) (may : MayReceive board t child old) (answer : Option Delivery)
    (new : HandSeat) (back : TakesBack board t child answer old new) where
  pub back-leaves : (parcel : Delivery) → answer ≡ Some parcel → MayLeave board t (Some parcel) new
  back-leaves parcel is =
      top-leaves board t new back.taken may.root parcel (subst (λ (o : Option Delivery). IfSome o (HasParcel board t new.me)) is back.parcel)

  pub back-rests : answer ≡ None → MayRestAgain board t child new
  back-rests none = record {
    inside = may.inside;
    rested = record {
      is = back.own may.inside may.kid may.rested.is;
      of = may.rested.of;
      saw = λ silent. may.rested.saw (sym back.keeps.heard ∙ silent);
    };
    root = may.root;
    names = may.names;
    large = may.large (back.lay may.inside may.kid may.rested.is ∙ ap (option_map Done) none);
  }
